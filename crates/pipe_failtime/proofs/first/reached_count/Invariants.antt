use Rattle.std.proofs.Common.{◌≡◌, ℕ, ◌≤◌, ◌&&◌}
use Rattle.pipe_graph.specs.Reach.{reaches}
use Rattle.pipe_topo.specs.Sets.{has}
use Rattle.pipe_graph.specs.Count.{count_below}
use Rattle.pipe_failtime.proofs.first.reached_count.Given as goal

abbrev pub invariant-loop-other : goal.invariant-loop-other
invariant-loop-other l = record {
  value : l.count ≡ count_below (λ (b : ℕ). has l.left b && reaches l.reach.graph (has l.reach.by) l.host b) l.other;
  most : l.count ≤ l.other;
}
