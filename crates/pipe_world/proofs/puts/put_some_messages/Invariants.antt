use Rattle.std.proofs.Common.{◌≡◌, take}
use Rattle.pipe_world.specs.Queues.{with_messages}
use Rattle.pipe_world.proofs.puts.put_some_messages.Given as goal

abbrev pub invariant-messages : goal.invariant-messages
invariant-messages l = l.queues ≡ with_messages (take l.at l.messages) l.initial.queues
