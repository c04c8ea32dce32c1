use Rattle.std.proofs.Common.{◌≡◌, map}
use Rattle.std.specs.List.{range_with_len}
use Rattle.pipe_topo.specs.Star.{host_cable}
use Rattle.pipe_topo.proofs.plan.Plan.star.Given as goal

abbrev pub invariant-loop-host : goal.invariant-loop-host
invariant-loop-host l = l.cables ≡ map host_cable (range_with_len 0 l.host)
