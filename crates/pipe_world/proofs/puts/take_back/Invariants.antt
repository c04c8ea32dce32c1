use Rattle.std.proofs.Common.{◌≡◌, ◌≤◌, length, take}
use Rattle.pipe_net.specs.Waits.{Waits}
use Rattle.pipe_world.specs.Queues.{with_puts}
use Rattle.pipe_world.proofs.puts.take_back.Given as goal

abbrev pub invariant-puts : goal.invariant-puts
invariant-puts l = record {
  within : l.left ≤ length l.puts;
  count : length l.queues.lines ≡ length l.initial.queues.lines;
  back : (before : Waits) → l.initial.queues ≡ with_puts l.puts before → l.queues ≡ with_puts (take l.left l.puts) before;
}

abbrev pub decreases-puts : goal.decreases-puts
decreases-puts l = l.left
