-- The words of an outcome and of a fate.
use Rattle.std.specs.Prelude.{ℕ, List, [], ◌∷◌, codes, decimal}
use Rattle.pipe_base.specs.declared.step.Fate.{Fate}
use Rattle.pipe_base.specs.declared.step.Fate.TheVariants.{Held, Repeat, Late, Discarded, Recalled}
use Rattle.pipe_base.specs.declared.step.Outcome.{Outcome}
use Rattle.pipe_base.specs.declared.step.Outcome.TheVariants.{Ok, DestFailed, Window, ClockEnd, Crashed, NoItem, Ignored}
use Rattle.pipe_text.specs.Name.{name_of}

-- what became of the event
abbrev pub outcome_words : List (List ℕ) → Outcome → List (List ℕ)
outcome_words names Ok = codes "ok" ∷ []
outcome_words names (DestFailed host) = codes "destfailed" ∷ name_of names host.0 ∷ []
outcome_words names (Window count) = codes "window" ∷ decimal count ∷ []
outcome_words names (ClockEnd next) = codes "clockend" ∷ decimal next.0 ∷ []
outcome_words names Crashed = codes "crashed" ∷ []
outcome_words names NoItem = codes "noitem" ∷ []
outcome_words names Ignored = codes "ignored" ∷ []

-- what became of a message
abbrev pub fate_words : Fate → List (List ℕ)
fate_words Held = codes "held" ∷ []
fate_words Repeat = codes "repeat" ∷ []
fate_words (Late barrier) = codes "late" ∷ decimal barrier.0 ∷ []
fate_words (Discarded time) = codes "discarded" ∷ decimal time.0 ∷ []
fate_words Recalled = codes "recalled" ∷ []
