-- Links are dropped once: no link stands twice among those that were dropped, nor among those that a node knows as dropped.
use Rattle.std.specs.Prelude.{◌≢◌, ℕ, List, AllPairs}
use Rattle.pipe_base.specs.declared.name.LinkId.{LinkId}
use Rattle.pipe_graph.specs.Graph.{Graph}
use Rattle.pipe_model.specs.declared.record.Record.{Record}
use Rattle.pipe_model.specs.Acting.{own}
use Rattle.pipe_model.specs.Controller.{dropped}
use Rattle.pipe_model.specs.Moments.{known_drops}

abbrev pub AreDifferent : List LinkId → Type 0
AreDifferent links = AllPairs (λ a b. a.0 ≢ b.0) links

pub record AreDroppedOnce (graph : Graph) (past : List Record) : Type 0 where
  pub dropped : AreDifferent (dropped graph past)
  pub known : (node : ℕ) → AreDifferent (known_drops (own graph node past))
