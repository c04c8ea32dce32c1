-- The headline: the trace is the run of these events, it puts no more than it may, and the channel keeps its promises in it.
use Rattle.std.specs.Prelude.{◌≤◌, All, List, reverse}
use Rattle.pipe_base.specs.Limits.{most_items}
use Rattle.pipe_graph.specs.Graph.{Graph}
use Rattle.pipe_model.specs.declared.event.Event.{Event}
use Rattle.pipe_model.specs.declared.record.Record.{Record}
use Rattle.pipe_model.specs.AllOrNone.{IsAllOrNone}
use Rattle.pipe_model.specs.Items.{items_of}
use Rattle.pipe_model.specs.LateMessage.{IsNoneLateOfItself}
use Rattle.pipe_model.specs.NeverLate.{IsNeverLate, IsOfOldest}
use Rattle.pipe_model.specs.OnTime.{IsLoggedOnTime}
use Rattle.pipe_model.specs.Order.{AreLogsOrdered, AreStampsCausal, IsGenuine}
use Rattle.pipe_model.specs.Run.{IsRun}

pub record IsOrderedRun (graph : Graph) (events : List Event) (trace : List Record) : Type 0 where
  -- each record is what the rules say, given those before it
  pub run : IsRun graph events trace
  pub within : items_of trace ≤ most_items
  -- each log rises strictly by timestamp and sender
  pub ordered : AreLogsOrdered graph (reverse trace)
  -- hosts stamp above all that they logged
  pub causal : AreStampsCausal graph (reverse trace)
  -- what is logged was sent, to that host and with that body
  pub genuine : IsGenuine graph (reverse trace)
  -- what a barrier passes is logged in that step, unless it is late, void or taken back
  pub on_time : IsLoggedOnTime graph (reverse trace)
  -- where each take names the oldest packet of its link, no best-effort message is late
  pub never_late : All IsOfOldest events → IsNeverLate (reverse trace)
  -- a reliable scattering that the barriers of all correct receivers passed is in all their logs or in none
  pub all_or_none : IsAllOrNone graph (reverse trace)
  -- where a reliable message is late at a correct host, that host held it, was told to take it back, or knows its sender as failed
  pub none_late : IsNoneLateOfItself graph (reverse trace)
