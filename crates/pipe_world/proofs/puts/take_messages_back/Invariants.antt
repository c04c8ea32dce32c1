use Rattle.std.proofs.Common.{◌≡◌}
use Rattle.pipe_world.specs.Queues.{without_last}
use Rattle.pipe_world.proofs.puts.take_messages_back.Given as goal

abbrev pub invariant-messages : goal.invariant-messages
invariant-messages l = l.queues ≡ without_last l.counter l.initial.queues
