use Rattle.std.proofs.Common.{◌≡◌, false}
use Rattle.pipe_graph.specs.Below.{any_below}
use Rattle.pipe_topo.specs.Sets.{has}
use Rattle.pipe_graph.specs.Doomed.{is_stranger}
use Rattle.pipe_failtime.proofs.first.has_strangers.Given as goal

abbrev pub invariant-loop-host : goal.invariant-loop-host
invariant-loop-host l = any_below (is_stranger l.reach.graph (has l.reach.by) (has l.left)) l.host ≡ false
