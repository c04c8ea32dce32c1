use Rattle.std.proofs.Common.{◌≡◌, ◌++◌, map, take, drop}
use Rattle.pipe_barrier.specs.Register.{register_after}
use Rattle.pipe_barrier.proofs.registers.change_each.Given as goal

abbrev pub invariant-links : goal.invariant-links
invariant-links l = l.links ≡ map (register_after l.link l.change) (take l.register-index l.initial.links) ++ drop l.register-index l.initial.links
