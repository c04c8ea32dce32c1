-- The records of the events of a node, with what each takes and what the node did.
use Rattle.std.specs.Prelude.{ℕ, List, Bool}
use Rattle.pipe_base.specs.declared.control.Control.{Control}
use Rattle.pipe_base.specs.declared.control.To.TheVariants.{Node}
use Rattle.pipe_base.specs.declared.message.Service.{Service}
use Rattle.pipe_base.specs.declared.name.HostId.{HostId}
use Rattle.pipe_base.specs.declared.name.LinkId.{LinkId}
use Rattle.pipe_base.specs.declared.name.NodeId.{NodeId}
use Rattle.pipe_base.specs.declared.name.Ts.{Ts}
use Rattle.pipe_base.specs.declared.packet.Packet.{Packet}
use Rattle.pipe_base.specs.declared.step.Step.{Step}
use Rattle.pipe_model.specs.declared.event.Event.{Event}
use Rattle.pipe_model.specs.declared.event.Event.TheVariants.{ControlTake, Crash, Send, Take, Tick}
use Rattle.pipe_model.specs.declared.record.Record.{Record}
use Rattle.pipe_model.specs.declared.record.Took.{Took}
use Rattle.pipe_model.specs.declared.record.Took.TheVariants.{Link, Message, Nothing}

-- the record of an event
abbrev pub record_of : Event → Took → Step → Record
record_of event took step = record { event = event; took = took; step = step }

-- a host sends a scattering of a service
abbrev pub sent : HostId → Service → Ts → List (HostId × List ℕ) → Step → Record
sent host service now dests step = record_of (Send host service now dests) Nothing step

-- a packet was taken from a link
abbrev pub taken : LinkId → Packet → ℕ → Bool → Step → Record
taken link p place keep step = record_of (Take link place keep) (Link link p) step

-- a node's clock read this
abbrev pub ticked : NodeId → Ts → Step → Record
ticked node now step = record_of (Tick node now) Nothing step

-- a node was told this by a control message
abbrev pub told : NodeId → Control → ℕ → Bool → Step → Record
told node control place keep step =
    record_of (ControlTake place keep) (Message (record { to = Node node; control = control })) step

-- a node crashed
abbrev pub crashed : NodeId → Step → Record
crashed node step = record_of (Crash node) Nothing step
