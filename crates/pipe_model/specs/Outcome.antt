-- The outcome of an event, and what it takes.
use Rattle.std.specs.Prelude.{ℕ, nat_lt, ◌==◌, if◌then◌else◌, Bool, false, List, length, Option, None, Some, slice_get}
use Rattle.std.specs.List.{list_any}
use Rattle.pipe_base.specs.declared.control.Addressed.{Addressed}
use Rattle.pipe_base.specs.declared.control.To.{To}
use Rattle.pipe_base.specs.declared.control.To.TheVariants.{Controller, Node}
use Rattle.pipe_base.specs.declared.name.LinkId.{LinkId}
use Rattle.pipe_base.specs.declared.packet.Packet.{Packet}
use Rattle.pipe_base.specs.declared.step.Outcome.{Outcome}
use Rattle.pipe_base.specs.declared.step.Outcome.TheVariants.{Ok, NoItem, Crashed}
use Rattle.pipe_graph.specs.Graph.{Graph, head_of}
use Rattle.pipe_model.specs.declared.event.Event.{Event}
use Rattle.pipe_model.specs.declared.event.Event.TheVariants.{Send, Tick, Take, Lose, ControlTake, ControlLose, Decide, Crash, Cut}
use Rattle.pipe_model.specs.declared.record.Record.{Record}
use Rattle.pipe_model.specs.declared.record.Took.{Took}
use Rattle.pipe_model.specs.declared.record.Took.TheVariants.{Nothing, Link, Message}
use Rattle.pipe_model.specs.Acting.{is_idle, own}
use Rattle.pipe_model.specs.OwnOutcome.{own_outcome}
use Rattle.pipe_model.specs.Waiting.{waiting_on, waiting_control}

abbrev pub is_crash_of : ℕ → Event → Bool
is_crash_of node (Crash n) = n.0 == node
is_crash_of node _ = false

-- some record is a crash of the node
abbrev pub has_crashed : ℕ → List Record → Bool
has_crashed node past = list_any (λ r. is_crash_of node r.event) past

-- at a place where nothing waits there is no item
abbrev pub place_outcome : {A : Type 0} → ℕ → List A → Outcome → Outcome
place_outcome place waiting outcome = if nat_lt place (length waiting) then outcome else NoItem

-- the outcome at the acting node: nothing happens where it has crashed, else the node answers
abbrev pub outcome_at : Graph → List Record → Event → ℕ → Outcome
outcome_at graph past event node =
    if has_crashed node past then Crashed else own_outcome graph node (own graph node past) event

-- the outcome where a control message goes: the controller does not crash
abbrev pub outcome_to : Graph → List Record → Event → To → Outcome
outcome_to graph past event Controller = Ok
outcome_to graph past event (Node n) = outcome_at graph past event n.0

abbrev pub message_outcome : Graph → List Record → Event → Option Addressed → Outcome
message_outcome graph past event None = NoItem
message_outcome graph past event (Some a) = outcome_to graph past event a.to

-- The outcome of an event after a history: no item first, then a crashed node, then what the acting node answers.
abbrev pub outcome_of : Graph → List Record → Event → Outcome
outcome_of graph past (Send host service now dests) = outcome_at graph past (Send host service now dests) host.0
outcome_of graph past (Tick node now) = outcome_at graph past (Tick node now) node.0
outcome_of graph past (Take link place keep) =
    place_outcome place (waiting_on link.0 past) (outcome_at graph past (Take link place keep) (head_of graph link.0))
outcome_of graph past (Lose link place) = place_outcome place (waiting_on link.0 past) Ok
outcome_of graph past (ControlTake place keep) =
    message_outcome graph past (ControlTake place keep) (slice_get (waiting_control past) place)
outcome_of graph past (ControlLose place) = place_outcome place (waiting_control past) Ok
outcome_of graph past Decide = Ok
outcome_of graph past (Crash node) = outcome_at graph past (Crash node) node.0
outcome_of graph past (Cut link) = Ok

abbrev pub took_at : LinkId → Option Packet → Took
took_at link None = Nothing
took_at link (Some p) = Link link p

abbrev pub took_message : Option Addressed → Took
took_message None = Nothing
took_message (Some a) = Message a

-- what stands at the place that an event takes from
abbrev pub item_at : List Record → Event → Took
item_at past (Take link place keep) = took_at link (slice_get (waiting_on link.0 past) place)
item_at past (ControlTake place keep) = took_message (slice_get (waiting_control past) place)
item_at past _ = Nothing

-- what an event takes: the item at its place, unless nothing happens
abbrev pub took_of : Graph → List Record → Event → Took
took_of graph past event = if is_idle (outcome_of graph past event) then Nothing else item_at past event
