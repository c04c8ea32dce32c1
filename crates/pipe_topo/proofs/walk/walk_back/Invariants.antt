use Rattle.std.proofs.Common.{◌+◌, length, sum}
use Rattle.pipe_topo.specs.Sets.{has}
use Rattle.pipe_topo.specs.Walk.{IsWalk}
use Rattle.pipe_topo.proofs.walk.walk_back.Given as goal

abbrev pub invariant-loop-node : goal.invariant-loop-node
invariant-loop-node l = IsWalk l.wiring (has l.by) l.fn.to.0 l.away.items l.queue.items

abbrev pub decreases-loop-node : goal.decreases-loop-node
decreases-loop-node l = sum l.away.items + length l.queue.items
