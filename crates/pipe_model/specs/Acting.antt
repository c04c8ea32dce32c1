-- Which node acts in an event, and what a node did by itself.
use Rattle.std.specs.Prelude.{◌≡◌, ℕ, ◌==◌, ◌&&◌, not, Bool, true, false, List, filter, Option, None, Some}
use Rattle.pipe_base.specs.declared.control.To.{To}
use Rattle.pipe_base.specs.declared.control.To.TheVariants.{Node}
use Rattle.pipe_base.specs.declared.name.NodeId.{NodeId}
use Rattle.pipe_base.specs.declared.step.Outcome.{Outcome}
use Rattle.pipe_base.specs.declared.step.Outcome.TheVariants.{Ok, DestFailed, Window, ClockEnd, Crashed, NoItem, Ignored}
use Rattle.pipe_graph.specs.Graph.{Graph, head_of, ins_of}
use Rattle.pipe_base.specs.Moment.{has_link}
use Rattle.pipe_model.specs.declared.event.Event.{Event}
use Rattle.pipe_model.specs.declared.event.Event.TheVariants.{Send, Tick, Take, Lose, ControlTake, ControlLose, Decide, Crash, Cut}
use Rattle.pipe_model.specs.declared.record.Record.{Record}
use Rattle.pipe_model.specs.declared.record.Took.{Took}
use Rattle.pipe_model.specs.declared.record.Took.TheVariants.{Message}

abbrev pub is_to : ℕ → To → Bool
is_to node (Node n) = n.0 == node
is_to node _ = false

-- a control message reached this node
abbrev pub reached : ℕ → Took → Bool
reached node (Message a) = is_to node a.to
reached node _ = false

-- the node acts: the host or half that is named, the head of the link of a take, the receiver of a control message
abbrev pub acts : Graph → ℕ → Event → Took → Bool
acts graph node (Send host service now dests) took = host.0 == node
acts graph node (Tick n now) took = n.0 == node
acts graph node (Take link place keep) took = head_of graph link.0 == node
acts graph node (ControlTake place keep) took = reached node took
acts graph node (Crash n) took = n.0 == node
acts graph node (Lose link place) took = false
acts graph node (ControlLose place) took = false
acts graph node Decide took = false
acts graph node (Cut link) took = false

-- a node acts, and it is this one
abbrev pub is_node : Option NodeId → ℕ → Bool
is_node None n = false
is_node (Some m) n = m.0 == n

-- a take is from a link into the node
abbrev pub ComesIn : Graph → ℕ → Event → Type 0
ComesIn graph node (Take link place keep) = has_link link.0 (ins_of graph node) ≡ true
ComesIn graph node _ = Unit {0}

-- nothing happened
abbrev pub is_idle : Outcome → Bool
is_idle Crashed = true
is_idle NoItem = true
is_idle Ok = false
is_idle (DestFailed host) = false
is_idle (Window count) = false
is_idle (ClockEnd next) = false
is_idle Ignored = false

-- the record is one of this node's own
abbrev pub is_own : Graph → ℕ → Record → Bool
is_own graph node r = acts graph node r.event r.took && not (is_idle r.step.outcome)

-- A node's own records, newest first. All that the node knows is a function of these.
abbrev pub own : Graph → ℕ → List Record → List Record
own graph node past = filter (is_own graph node) past
