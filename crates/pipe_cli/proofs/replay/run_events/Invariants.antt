use Rattle.std.proofs.Common.{◌≡◌, ◌++◌, map, All}
use Rattle.std.specs.VecDeque.{deque_len}
use Rattle.pipe_model.specs.Run.{event_of}
use Rattle.pipe_model.specs.Event.{IsOfGraph}
use Rattle.pipe_cli.proofs.replay.run_events.Given as goal

-- the events that happened, and those that are left
abbrev pub invariant-running : goal.invariant-running
invariant-running l = record {
  graph : l.world.graph ≡ l.fn.world.graph;
  events : map event_of l.world.trace ++ l.left.items ≡ l.fn.events;
  known : All (IsOfGraph l.fn.world.graph) l.left.items;
}

abbrev pub decreases-running : goal.decreases-running
decreases-running l = deque_len l.left
