-- The words of an event, as a schedule has them.
use Rattle.std.specs.Prelude.{ℕ, Bool, true, false, List, [], ◌∷◌, ◌++◌, map, codes, decimal}
use Rattle.pipe_base.specs.declared.name.HostId.{HostId}
use Rattle.pipe_model.specs.declared.event.Event.{Event}
use Rattle.pipe_model.specs.declared.event.Event.TheVariants.{Send, Tick, Take, Lose, ControlTake, ControlLose, Decide, Crash, Cut}
use Rattle.pipe_text.specs.Body.{hex_text}
use Rattle.pipe_text.specs.Log.{service_word}
use Rattle.pipe_text.specs.Name.{name_of}

-- `HOST=BODY`, where nothing follows the `=` of an empty body
abbrev pub dest_word : List (List ℕ) → (HostId × List ℕ) → List ℕ
dest_word names dest = name_of names dest.0.0 ++ codes "=" ++ hex_text dest.1

-- the last word of a take of which a copy stays
abbrev pub keep_words : Bool → List (List ℕ)
keep_words true = codes "keep" ∷ []
keep_words false = []

-- what happens, as the first word of the line
abbrev pub verb_word : Event → List ℕ
verb_word (Send host service now dests) = codes "send"
verb_word (Tick node now) = codes "tick"
verb_word (Take link place keep) = codes "take"
verb_word (Lose link place) = codes "lose"
verb_word (ControlTake place keep) = codes "control"
verb_word (ControlLose place) = codes "control"
verb_word Decide = codes "decide"
verb_word (Crash node) = codes "crash"
verb_word (Cut link) = codes "cut"

-- the words after the first one
abbrev pub detail_words : List (List ℕ) → Event → List (List ℕ)
detail_words names (Send host service now dests) = name_of names host.0 ∷ service_word service ∷ decimal now.0 ∷ map (dest_word names) dests
detail_words names (Tick node now) = name_of names node.0 ∷ decimal now.0 ∷ []
detail_words names (Take link place keep) = decimal link.0 ∷ decimal place ∷ keep_words keep
detail_words names (Lose link place) = decimal link.0 ∷ decimal place ∷ []
detail_words names (ControlTake place keep) = codes "take" ∷ decimal place ∷ keep_words keep
detail_words names (ControlLose place) = codes "lose" ∷ decimal place ∷ []
detail_words names Decide = []
detail_words names (Crash node) = name_of names node.0 ∷ []
detail_words names (Cut link) = decimal link.0 ∷ []

-- the line of a schedule that tells the event
abbrev pub event_words : List (List ℕ) → Event → List (List ℕ)
event_words names event = verb_word event ∷ detail_words names event
