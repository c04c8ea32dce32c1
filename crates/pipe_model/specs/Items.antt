-- How much a run puts. A network holds no more than so many items, so an event that would put more is refused.
use Rattle.std.specs.Prelude.{◌≡◌, ℕ, ◌+◌, ◌<◌, ◌≤◌, List, length, reverse, sum_by}
use Rattle.pipe_graph.specs.Graph.{Graph}
use Rattle.pipe_base.specs.Limits.{most_items}
use Rattle.pipe_model.specs.declared.event.Event.{Event}
use Rattle.pipe_model.specs.declared.record.Record.{Record}
use Rattle.pipe_model.specs.OneRun.{record_after}
use Rattle.pipe_model.specs.Run.{IsHistory}

-- the packets and control messages that a record puts
abbrev pub items_in : Record → ℕ
items_in r = length r.step.put + length r.step.control

-- all that was put in a trace
abbrev pub items_of : List Record → ℕ
items_of trace = sum_by items_in trace

-- so far not too much was put; with the record it would be, and so many items
pub record IsOver (trace : List Record) (r : Record) (items : ℕ) : Type 0 where
  pub within : items_of trace ≤ most_items
  pub items_are : items ≡ items_of trace + items_in r
  pub many : most_items < items

-- After the trace of a run so far this event would put too much, by the record that the rules give it.
pub record Overfills (graph : Graph) (trace : List Record) (event : Event) (items : ℕ) : Type 0 where
  pub past : IsHistory graph (reverse trace)
  pub over : IsOver trace (record_after graph (reverse trace) event) items
