-- Hosts note those that were announced in the order of their announcement, the first ones first.
use Rattle.std.specs.Prelude.{ℕ, List}
use Rattle.pipe_graph.specs.Graph.{Graph}
use Rattle.pipe_model.specs.declared.record.Record.{Record}
use Rattle.pipe_model.specs.Acting.{own}
use Rattle.pipe_model.specs.Controller.{announced}
use Rattle.pipe_model.specs.Moments.{noted_hosts}
use Rattle.pipe_model_atomic.specs.Begins.{Begins}

abbrev pub AreNotedFirst : Graph → List Record → Type 0
AreNotedFirst graph past = (node : ℕ) → Begins (noted_hosts (own graph node past)) (announced graph past)
