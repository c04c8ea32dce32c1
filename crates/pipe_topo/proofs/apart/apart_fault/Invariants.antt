use Rattle.std.proofs.Common.{◌≡◌, ℕ, None, is_some}
use Rattle.pipe_topo.specs.Fault.{apart_from}
use Rattle.pipe_topo.specs.First.{first_below}
use Rattle.pipe_topo.proofs.apart.apart_fault.Given as goal

abbrev pub invariant-loop-a : goal.invariant-loop-a
invariant-loop-a l = first_below (λ (a : ℕ). is_some (apart_from l.wiring a)) l.a ≡ None
