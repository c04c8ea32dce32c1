use Rattle.std.proofs.Common.{◌≡◌, ◌<◌}
use Rattle.std.specs.Prelude.{IfSome}
use Rattle.pipe_topo.specs.Sets.{has}
use Rattle.pipe_failtime.specs.First.{first_to_go}
use Rattle.pipe_failtime.proofs.first.first_to_go.Given as goal

abbrev pub invariant-loop-host : goal.invariant-loop-host
invariant-loop-host l = record {
  value : l.first ≡ first_to_go l.reach.graph (has l.reach.by) (has l.left) l.host;
  known : IfSome l.first (λ f. f < l.reach.graph.hosts);
}
