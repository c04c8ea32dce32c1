-- `tick NODE READING`
use Rattle.std.specs.Prelude.{ℕ, List, [], ◌∷◌, Option, Some, None, Result, Ok, Err}
use Rattle.pipe_graph.specs.Graph.{Graph}
use Rattle.pipe_model.specs.declared.event.Event.{Event}
use Rattle.pipe_model.specs.declared.event.Event.TheVariants.{Tick}
use Rattle.pipe_text.specs.declared.kind.LineKind.{LineKind}
use Rattle.pipe_text.specs.declared.kind.LineKind.TheVariants.{Count, Node, Number}
use Rattle.pipe_text.specs.Number.{number_of}
use Rattle.pipe_text_schedule.specs.Named.{node_in}

-- a reading of a clock
abbrev pub reading_of : Graph → List ℕ → Option ℕ
reading_of graph word = number_of graph.top word

-- a node and a reading, in this order
abbrev pub tick_from : Option ℕ → Option ℕ → Result Event LineKind
tick_from None now = Err Node
tick_from (Some node) None = Err Number
tick_from (Some node) (Some now) = Ok (Tick (record { 0 = node }) (record { 0 = now }))

-- the words after the verb
abbrev pub tick_line : Graph → List (List ℕ) → List (List ℕ) → Result Event LineKind
tick_line graph names (node ∷ now ∷ []) = tick_from (node_in graph names node) (reading_of graph now)
tick_line graph names _ = Err Count
