-- Who is present: a host that takes part and was not announced as failed.
use Rattle.std.specs.Prelude.{◌≡◌, ℕ, true, false, List}
use Rattle.pipe_base.specs.Failed.{is_announced}
use Rattle.pipe_graph.specs.Graph.{Graph}
use Rattle.pipe_model.specs.declared.record.Record.{Record}
use Rattle.pipe_model.specs.Controller.{announced, is_member}

pub record IsPresent (graph : Graph) (past : List Record) (host : ℕ) : Type 0 where
  pub member : is_member graph past host ≡ true
  pub trusted : is_announced host (announced graph past) ≡ false
