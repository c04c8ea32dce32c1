-- The counts that the controller keeps are true: no host has noted fewer of the announced hosts than it is credited with, and no
-- node knows fewer of the dropped links.
use Rattle.std.specs.Prelude.{ℕ, ◌≤◌, List, length}
use Rattle.pipe_graph.specs.Graph.{Graph}
use Rattle.pipe_model.specs.declared.record.Record.{Record}
use Rattle.pipe_model.specs.Acting.{own}
use Rattle.pipe_model.specs.Controller.{view}
use Rattle.pipe_model.specs.Moments.{known_drops, noted_hosts}

pub record AreCountsTrue (graph : Graph) (past : List Record) : Type 0 where
  pub done : (host : ℕ) → (view graph past).done host ≤ length (noted_hosts (own graph host past))
  pub gone : (node : ℕ) → (view graph past).gone node ≤ length (known_drops (own graph node past))
