-- Nodes come to know dropped links in the order in which they were dropped, the first ones first.
use Rattle.std.specs.Prelude.{ℕ, List}
use Rattle.pipe_graph.specs.Graph.{Graph}
use Rattle.pipe_model.specs.declared.record.Record.{Record}
use Rattle.pipe_model.specs.Acting.{own}
use Rattle.pipe_model.specs.Controller.{dropped}
use Rattle.pipe_model.specs.Moments.{known_drops}
use Rattle.pipe_model_atomic.specs.Begins.{Begins}

abbrev pub AreDropsKnownFirst : Graph → List Record → Type 0
AreDropsKnownFirst graph past = (node : ℕ) → Begins (known_drops (own graph node past)) (dropped graph past)
