-- What a host works out of a send, a packet, a tick and a control message, in terms of what it keeps.
use Rattle.std.specs.Prelude.{◌≡◌, ℕ, ◌==◌, ◌&&◌, if◌then◌else◌, Bool, max, List, [], ◌∷◌, Option, None, Some}
use Rattle.pipe_base.specs.declared.control.Addressed.{Addressed}
use Rattle.pipe_base.specs.declared.control.Control.{Control}
use Rattle.pipe_base.specs.declared.control.To.TheVariants.{Node}
use Rattle.pipe_base.specs.declared.message.Entry.{Entry}
use Rattle.pipe_base.specs.declared.message.Service.{Service}
use Rattle.pipe_base.specs.declared.message.Service.TheVariants.{Reliable}
use Rattle.pipe_base.specs.declared.name.HostId.{HostId}
use Rattle.pipe_base.specs.declared.name.LinkId.{LinkId}
use Rattle.pipe_base.specs.declared.name.NodeId.{NodeId}
use Rattle.pipe_base.specs.declared.name.Ts.{Ts}
use Rattle.pipe_base.specs.declared.packet.Packet.{Packet}
use Rattle.pipe_base.specs.declared.packet.PacketKind.{PacketKind}
use Rattle.pipe_base.specs.declared.step.Fate.{Fate}
use Rattle.pipe_base.specs.declared.step.Outcome.TheVariants.{Ok}
use Rattle.pipe_base.specs.declared.step.Step.{Step}
use Rattle.pipe_base.specs.Clock.{after_logged, next_after}
use Rattle.pipe_base.specs.Fate.{is_holding}
use Rattle.pipe_graph.specs.Graph.{Graph, ins_of}
use Rattle.pipe_base.specs.Moment.{Received, with_downed}
use Rattle.pipe_base.specs.Entries.{with_entries}
use Rattle.pipe_base.specs.Packets.{Fields, ack_to, recall_ack_to}
use Rattle.pipe_base.specs.Promise.{promise_of}
use Rattle.pipe_base.specs.Resends.{resends}
use Rattle.pipe_graph.specs.ShortestRoute.{route}
use Rattle.pipe_base.specs.Step.{quiet_step}
use Rattle.pipe_base.specs.Ways.{with_beacons, with_ways}
use Rattle.pipe_barrier.specs.declared.registers.Barriers.{Barriers}
use Rattle.pipe_barrier.specs.Registers.{AreBarriers}
use Rattle.pipe_links.specs.Links as links
use Rattle.pipe_links.specs.Ways.{outs_left}
use Rattle.pipe_model.specs.declared.event.Event.TheVariants.{ControlTake, Send, Take, Tick}
use Rattle.pipe_model.specs.declared.record.Record.{Record}
use Rattle.pipe_model.specs.declared.record.Took.TheVariants.{Link, Message, Nothing}
use Rattle.pipe_model.specs.Clock.{next}
use Rattle.pipe_model.specs.Got.{carries}
use Rattle.pipe_model.specs.Marks.{told_marks}
use Rattle.pipe_model.specs.Moments.{known_drops, moments_of}
use Rattle.pipe_model.specs.Recalls.{is_recall}
use Rattle.pipe_model.specs.Sender.{sender_calls}
use Rattle.pipe_relsend.specs.Pending.{Pending}
use Rattle.pipe_relsend.specs.Sending.{first_or}
use Rattle.pipe_host.specs.declared.host.Host.{Host}
use Rattle.pipe_host.specs.Buffers.{last_of, logged_by}

-- the two barriers of a host's packets, with this next timestamp
abbrev pub fields_at : ℕ → List Pending → Fields
fields_at next pending = record { be = next; commit = first_or next pending }

-- the same after a step that logged these entries
abbrev pub fields_after : List (Service × Entry) → Host → Fields
fields_after log k = fields_at (max k.clock.next.0 (after_logged log)) k.sender

-- A reliable message with this fate that is held is acknowledged, and the taking back of a message at this host is always
-- answered.
abbrev pub answers_for : HostId → Fields → Option Fate → Packet → List Packet
answers_for host f fate p =
    if carries Reliable p.kind && is_holding fate then ack_to host f p ∷ []
    else if (p.dst.0 == host.0) && is_recall p.kind then recall_ack_to host f p ∷ [] else []

-- the answer of a kind to a packet, if there is one
abbrev pub answers_as : Option PacketKind → HostId → Fields → Packet → List Packet
answers_as None host f p = []
answers_as (Some kind) host f p = record (ack_to host f p) { kind = kind } ∷ []

-- the step of a received packet that leads to these barriers: what they pass is logged, and the packet is answered
abbrev pub response : Graph → ℕ → List Record → Barriers → Host → Option Fate → Packet → Step
response graph node own b k fate p =
    with_ways (route graph (known_drops own) node) (answers_for (record { 0 = node }) (fields_after (logged_by b k.held) k) fate p)
    (record (quiet_step Ok) { fate = fate; logged = logged_by b k.held })

-- the step of a received packet with this fate, where what it brings is in the buffers already
pub record IsReceipt (k : Host) (link : LinkId) (p : Packet) (fate : Option Fate) (step : Step) : Type 0 where
  pub barriers : Barriers
  pub barriers_are : (graph : Graph) (node : ℕ) (own : List Record) → links.Stands graph node own k.links
      → AreBarriers (ins_of graph node) (Received link.0 p.be.0 p.commit.0 ∷ moments_of graph node own) barriers
  pub step_is : (graph : Graph) (node : ℕ) (own : List Record) → links.Stands graph node own k.links
      → step ≡ response graph node own barriers k fate p

-- The step of a control message by which so many hosts are noted already, and these links are dropped: what it tells goes down
-- or is dropped, and what the barriers pass then is logged.
pub record IsObeying (k : Host) (control : Control) (drops : List LinkId) (count : ℕ) (step : Step) : Type 0 where
  pub marks : List (LinkId × Ts)
  pub barriers : Barriers
  pub marks_are : (graph : Graph) (node : ℕ) (own : List Record) → links.Stands graph node own k.links
      → marks ≡ told_marks (ins_of graph node) (moments_of graph node own) control
  pub barriers_are : (graph : Graph) (node : ℕ) (own : List Record) → links.Stands graph node own k.links
      → AreBarriers (ins_of graph node) (with_entries (ins_of graph node) drops (with_downed marks (moments_of graph node own))) barriers
  pub step_is : step ≡ record (quiet_step Ok) {
    downed = marks;
    dropped = drops;
    noted = last_of count k.held.reliable.failed;
    logged = logged_by barriers k.held;
  }

-- the two barriers of a host's packets after a tick that reads this and logs these entries
abbrev pub fields_ticked : Graph → ℕ → List Record → Ts → List (Service × Entry) → Fields
fields_ticked graph node own now log =
    record { be = next_after (next graph node own) now.0 None log; commit = promise_of (next_after (next graph node own) now.0 None log) (sender_calls graph node own) }

-- The step of a tick with these fields: links go down, the controller is told this, these entries are logged, what is not
-- answered is put again, and each link out has a beacon.
abbrev pub beat : Graph → ℕ → List Record → Fields → List (LinkId × Ts) → List Addressed → List (Service × Entry) → Step
beat graph node own f downed told log =
    with_beacons (outs_left graph node (known_drops own)) f
    (with_ways (route graph (known_drops own) node) (resends (sender_calls graph node own) (record { 0 = node }) f)
    (record (quiet_step Ok) { downed = downed; control = told; logged = log }))
