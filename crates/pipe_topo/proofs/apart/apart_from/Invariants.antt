use Rattle.std.proofs.Common.{◌≡◌, None}
use Rattle.pipe_topo.specs.Fault.{is_apart}
use Rattle.pipe_topo.specs.First.{first_below}
use Rattle.pipe_topo.proofs.apart.apart_from.Given as goal

abbrev pub invariant-loop-b : goal.invariant-loop-b
invariant-loop-b l = first_below (is_apart l.wiring l.a) l.b ≡ None
