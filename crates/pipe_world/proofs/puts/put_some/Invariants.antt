use Rattle.std.proofs.Common.{◌≡◌, take}
use Rattle.pipe_world.specs.Queues.{with_puts}
use Rattle.pipe_world.proofs.puts.put_some.Given as goal

abbrev pub invariant-puts : goal.invariant-puts
invariant-puts l = l.queues ≡ with_puts (take l.at l.puts) l.initial.queues
