-- `control take PLACE`, `control take PLACE keep`, `control lose PLACE` and `decide`
use Rattle.std.specs.Prelude.{ℕ, Bool, false, if◌then◌else◌, List, [], ◌∷◌, Option, Some, None, Result, Ok, Err, bytes_eq, codes}
use Rattle.pipe_model.specs.declared.event.Event.{Event}
use Rattle.pipe_model.specs.declared.event.Event.TheVariants.{ControlTake, ControlLose, Decide}
use Rattle.pipe_text.specs.declared.kind.LineKind.{LineKind}
use Rattle.pipe_text.specs.declared.kind.LineKind.TheVariants.{Verb, Count, Number}
use Rattle.pipe_text_schedule.specs.Take.{keep_of, place_of}

-- a place and what becomes of the message, in this order
abbrev pub control_take_from : Option ℕ → Option Bool → Result Event LineKind
control_take_from None keep = Err Number
control_take_from (Some place) None = Err Verb
control_take_from (Some place) (Some keep) = Ok (ControlTake place keep)

-- the words after the two verbs
abbrev pub control_take_line : List (List ℕ) → Result Event LineKind
control_take_line (place ∷ []) = control_take_from (place_of place) (Some false)
control_take_line (place ∷ keep ∷ []) = control_take_from (place_of place) (keep_of keep)
control_take_line _ = Err Count

abbrev pub control_lose_from : Option ℕ → Result Event LineKind
control_lose_from None = Err Number
control_lose_from (Some place) = Ok (ControlLose place)

abbrev pub control_lose_line : List (List ℕ) → Result Event LineKind
control_lose_line (place ∷ []) = control_lose_from (place_of place)
control_lose_line _ = Err Count

-- the words after the first verb
abbrev pub control_line : List (List ℕ) → Result Event LineKind
control_line [] = Err Verb
control_line (verb ∷ words) =
    if bytes_eq verb (codes "take") then control_take_line words else if bytes_eq verb (codes "lose") then control_lose_line words else Err Verb

-- a decision has no words after the verb
abbrev pub decide_line : List (List ℕ) → Result Event LineKind
decide_line [] = Ok Decide
decide_line _ = Err Count
