use Rattle.std.proofs.Common.{◌≡◌, ◌++◌, drop}
use Rattle.pipe_barrier.specs.Registers.{downs_among}
use Rattle.pipe_barrier.proofs.registers.tell_downs.Given as goal

abbrev pub invariant-links : goal.invariant-links
invariant-links l = l.told ++ downs_among (drop l.register-index l.links) ≡ downs_among l.links
