use Rattle.std.proofs.Common.{take}
use Rattle.pipe_topo.specs.Sets.{has}
use Rattle.pipe_route.specs.Firsts.{IsLeast}
use Rattle.pipe_route.proofs.firsts.least_distance.Given as goal

abbrev pub invariant-loop-link : goal.invariant-loop-link
invariant-loop-link l = IsLeast l.topology (has l.by) l.away l.fn.node.0 (take l.link-index l.link-items) l.nearest
