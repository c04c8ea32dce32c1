-- The run of a list of events: the record that follows a history, as a function of its event.
use Rattle.std.specs.Prelude.{ℕ, if◌then◌else◌, List, [], ◌∷◌, Option, None, Some, reverse}
use Rattle.pipe_base.specs.declared.control.To.{To}
use Rattle.pipe_base.specs.declared.control.To.TheVariants.{Node}
use Rattle.pipe_base.specs.declared.name.NodeId.{NodeId}
use Rattle.pipe_base.specs.Step.{quiet_step}
use Rattle.pipe_graph.specs.Graph.{Graph, head_of}
use Rattle.pipe_model.specs.declared.event.Event.{Event}
use Rattle.pipe_model.specs.declared.event.Event.TheVariants.{Send, Tick, Take, ControlTake, Crash}
use Rattle.pipe_model.specs.declared.record.Record.{Record}
use Rattle.pipe_model.specs.declared.record.Took.{Took}
use Rattle.pipe_model.specs.declared.record.Took.TheVariants.{Message}
use Rattle.pipe_model.specs.Acting.{is_idle, own}
use Rattle.pipe_model.specs.Controller.{nobodys_step, view}
use Rattle.pipe_model.specs.Duties.{put, unrouted, control}
use Rattle.pipe_model.specs.Fate.{fate}
use Rattle.pipe_model.specs.Logged.{logged}
use Rattle.pipe_model.specs.Marks.{downed, newly_dropped, newly_noted}
use Rattle.pipe_model.specs.Outcome.{outcome_of, took_of}
use Rattle.pipe_model.specs.OwnOutcome.{stamped}

abbrev pub node_told : To → Option NodeId
node_told (Node n) = Some n
node_told _ = None

abbrev pub node_reached : Took → Option NodeId
node_reached (Message a) = node_told a.to
node_reached _ = None

-- the node that acts, if one does
abbrev pub acting : Graph → Event → Took → Option NodeId
acting graph (Send host service now dests) took = Some (record { 0 = host.0 })
acting graph (Tick n now) took = Some n
acting graph (Take link place keep) took = Some (record { 0 = head_of graph link.0 })
acting graph (ControlTake place keep) took = node_reached took
acting graph (Crash n) took = Some n
acting graph _ took = None

-- the node whose own record it is, if it is a node's
abbrev pub owner : Graph → Record → Option NodeId
owner graph r = if is_idle r.step.outcome then None else acting graph r.event r.took

-- the event with its outcome and what it takes
abbrev pub answered : Graph → List Record → Event → Record
answered graph past event = record {
  event = event;
  took = took_of graph past event;
  step = quiet_step (outcome_of graph past event);
}

-- with what a node does before it logs, which rests on nothing else that it does in the record
abbrev pub with_marks : Graph → ℕ → List Record → Record → Record
with_marks graph node own r = record r {
  step = record (r.step) {
    downed = downed graph node own r;
    dropped = newly_dropped graph node own r;
    noted = newly_noted graph node own r;
    stamped = stamped graph node own r.event;
    fate = fate graph node own r;
  };
}

-- with what it logs, by the barriers that it has then
abbrev pub with_log : Graph → ℕ → List Record → Record → Record
with_log graph node own r = record r { step = record (r.step) { logged = logged graph node own r } }

-- with what it puts, by the clock and the promise that it has then
abbrev pub with_puts : Graph → ℕ → List Record → Record → Record
with_puts graph node own r = record r {
  step = record (r.step) {
    put = put graph node own r;
    unrouted = unrouted graph node own r;
    control = control graph node own r;
  };
}

-- with all that its node does, or with what is done where it is no node's
abbrev pub with_step : Graph → List Record → Option NodeId → Record → Record
with_step graph past None r = record r { step = nobodys_step graph (view graph past) r.event r.step.outcome }
with_step graph past (Some n) r =
    with_puts graph n.0 (own graph n.0 past)
    (with_log graph n.0 (own graph n.0 past) (with_marks graph n.0 (own graph n.0 past) r))

-- The record of an event after a history.
abbrev pub record_after : Graph → List Record → Event → Record
record_after graph past event =
    with_step graph past (owner graph (answered graph past event)) (answered graph past event)

-- the records of events, the newest first
abbrev pub history_of : Graph → List Event → List Record
history_of graph [] = []
history_of graph (event ∷ before) = record_after graph (history_of graph before) event ∷ history_of graph before

-- The trace of a list of events, in order.
abbrev pub run_of : Graph → List Event → List Record
run_of graph events = reverse (history_of graph (reverse events))
