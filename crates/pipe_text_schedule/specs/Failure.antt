-- `crash NODE` and `cut LINK`
use Rattle.std.specs.Prelude.{ℕ, List, [], ◌∷◌, Option, Some, None, Result, Ok, Err}
use Rattle.pipe_graph.specs.Graph.{Graph}
use Rattle.pipe_model.specs.declared.event.Event.{Event}
use Rattle.pipe_model.specs.declared.event.Event.TheVariants.{Crash, Cut}
use Rattle.pipe_text.specs.declared.kind.LineKind.{LineKind}
use Rattle.pipe_text.specs.declared.kind.LineKind.TheVariants.{Count, Link, Node}
use Rattle.pipe_text_schedule.specs.Named.{link_in, node_in}

abbrev pub crash_from : Option ℕ → Result Event LineKind
crash_from None = Err Node
crash_from (Some node) = Ok (Crash (record { 0 = node }))

-- the words after the verb
abbrev pub crash_line : Graph → List (List ℕ) → List (List ℕ) → Result Event LineKind
crash_line graph names (node ∷ []) = crash_from (node_in graph names node)
crash_line graph names _ = Err Count

abbrev pub cut_from : Option ℕ → Result Event LineKind
cut_from None = Err Link
cut_from (Some link) = Ok (Cut (record { 0 = link }))

-- the words after the verb
abbrev pub cut_line : Graph → List (List ℕ) → Result Event LineKind
cut_line graph (link ∷ []) = cut_from (link_in graph link)
cut_line graph _ = Err Count
