use Rattle.std.proofs.Common.{◌≡◌, map, take}
use Rattle.pipe_barrier.specs.Register.{fresh_register}
use Rattle.pipe_barrier.proofs.registers.Registers.new.Given as goal

abbrev pub invariant-loop-link : goal.invariant-loop-link
invariant-loop-link l = l.links.items ≡ map fresh_register (take l.link-index l.ins)
