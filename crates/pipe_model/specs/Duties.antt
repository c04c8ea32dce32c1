-- Which packets a node owes in a record, with the two barriers that they carry, and which control messages.
use Rattle.std.specs.Prelude.{ℕ, ◌&&◌, not, nat_lt, length, if◌then◌else◌, List, [], ◌∷◌, ◌++◌, Option, None, Some, map, filter, flat_map}
use Rattle.pipe_base.specs.declared.message.Service.{Service}
use Rattle.pipe_base.specs.declared.message.Service.TheVariants.{Reliable}
use Rattle.pipe_base.specs.declared.name.HostId.{HostId}
use Rattle.pipe_base.specs.declared.name.LinkId.{LinkId}
use Rattle.pipe_base.specs.declared.name.Ts.{Ts}
use Rattle.pipe_base.specs.declared.control.Addressed.{Addressed}
use Rattle.pipe_base.specs.declared.control.Control.TheVariants.{Done, Down, Gone}
use Rattle.pipe_base.specs.declared.control.To.TheVariants.{Controller}
use Rattle.pipe_base.specs.declared.packet.Packet.{Packet}
use Rattle.pipe_base.specs.declared.packet.Plane.TheVariants as plane
use Rattle.pipe_base.specs.declared.step.Fate.{Fate}
use Rattle.pipe_base.specs.Fate.{is_holding}
use Rattle.pipe_graph.specs.Graph.{Graph, ins_of, is_host, outs_of}
use Rattle.pipe_base.specs.Packets.{Fields, ack_to, beacon, forwarded, recall_ack_to, sent_to}
use Rattle.pipe_base.specs.Resends.{resends}
use Rattle.pipe_base.specs.Scattering.{SenderCall}
use Rattle.pipe_base.specs.Settled.{is_recalling}
use Rattle.pipe_graph.specs.ShortestRoute.{route}
use Rattle.pipe_graph.specs.Passable.{not_dropped, is_passable}
use Rattle.pipe_base.specs.Ways.{routed, lost}
use Rattle.pipe_model.specs.declared.event.Event.{Event}
use Rattle.pipe_model.specs.declared.event.Event.TheVariants.{Send, Tick, Take}
use Rattle.pipe_model.specs.declared.record.Record.{Record}
use Rattle.pipe_model.specs.Clock.{next, promise}
use Rattle.pipe_model.specs.Got.{carries, gets, is_beacon}
use Rattle.pipe_model.specs.Marks.{mark}
use Rattle.pipe_model.specs.Moments.{received, barrier_at, known_drops, noted_hosts}
use Rattle.pipe_model.specs.Recalls.{is_recall}
use Rattle.pipe_model.specs.Sender.{sender_calls}

-- packets of a send promise its stamp, all others of a host its next timestamp
abbrev pub host_be : Option Ts → ℕ → ℕ
host_be None next = next
host_be (Some ts) next = ts.0

-- All fields are those after the record: a host's promise, or the barriers of a half.
abbrev pub fields : Graph → ℕ → List Record → Record → Fields
fields graph node own r =
    if is_host graph node then record { be = host_be r.step.stamped (next graph node (r ∷ own)); commit = promise graph node (r ∷ own) }
    else record { be = barrier_at plane.BestEffort graph node (r ∷ own); commit = barrier_at plane.Commit graph node (r ∷ own) }

-- a send owes a message to each receiver, in listed order
abbrev pub owed_by_send : Service → HostId → Fields → List (HostId × List ℕ) → Option Ts → List Packet
owed_by_send service src f dests None = []
owed_by_send service src f dests (Some ts) = map (sent_to service src ts f) dests

-- a half owes what it received, but no beacon
abbrev pub owed_by_half : Fields → Option (ℕ × Packet) → List Packet
owed_by_half f None = []
owed_by_half f (Some q) = if is_beacon q.1.kind then [] else forwarded f q.1 ∷ []

-- a host owes an acknowledgement of the reliable message that it got, where it holds the message, and always an answer to the
-- taking back of one
abbrev pub owed_by_host : ℕ → Fields → Option Fate → Option Packet → List Packet
owed_by_host host f fate None = []
owed_by_host host f fate (Some p) =
    if carries Reliable p.kind && is_holding fate then ack_to (record { 0 = host }) f p ∷ []
    else if is_recall p.kind then recall_ack_to (record { 0 = host }) f p ∷ [] else []

-- what is owed for the packet that a take brings
abbrev pub owed_by_take : Graph → ℕ → Fields → List Record → Record → List Packet
owed_by_take graph node f own r =
    if is_host graph node then owed_by_host node f r.step.fate (gets graph node own r) else owed_by_half f (received graph node own r)

-- a host owes what was not answered again
abbrev pub owed_by_tick : Graph → ℕ → Fields → List SenderCall → List Packet
owed_by_tick graph node f calls = if is_host graph node then resends calls (record { 0 = node }) f else []

-- the packets that are to find a way, by the event
abbrev pub owed_of : Graph → ℕ → Fields → List Record → Record → Event → List Packet
owed_of graph node f own r (Send host service now dests) = owed_by_send service host f dests r.step.stamped
owed_of graph node f own r (Tick n now) = owed_by_tick graph node f (sender_calls graph node (r ∷ own))
owed_of graph node f own r (Take link place keep) = owed_by_take graph node f own r
owed_of graph node f own r _ = []

-- what the node owes in a record
abbrev pub owed : Graph → ℕ → List Record → Record → List Packet
owed graph node own r = owed_of graph node (fields graph node own r) own r r.event

-- a tick owes a beacon on each out-link on which the node may put packets, in rising number
abbrev pub beacons_of : Graph → ℕ → List LinkId → Fields → Event → List (LinkId × Packet)
beacons_of graph node known f (Tick n now) =
    map (λ l. (l, beacon f)) (filter (λ l. is_passable graph known l.0) (outs_of graph node))
beacons_of graph node known f _ = []

-- the beacons of a record
abbrev pub beacons : Graph → ℕ → List Record → Record → List (LinkId × Packet)
beacons graph node own r = beacons_of graph node (known_drops (r ∷ own)) (fields graph node own r) r.event

-- what the record puts, in order: the owed packets that have a way, each on it, then the beacons
abbrev pub put : Graph → ℕ → List Record → Record → List (LinkId × Packet)
put graph node own r =
    routed (route graph (known_drops (r ∷ own)) node) (owed graph node own r) ++ beacons graph node own r

-- how many owed packets have no way
abbrev pub unrouted : Graph → ℕ → List Record → Record → ℕ
unrouted graph node own r = lost (route graph (known_drops (r ∷ own)) node) (owed graph node own r)

-- what the controller is told of a link with this mark
abbrev pub down_told : LinkId → Option Ts → List Addressed
down_told l None = []
down_told l (Some value) = record { to = Controller; control = Down l value } ∷ []

-- the marks of the in-links that the node does not know as dropped, told to the controller in rising number
abbrev pub downs_told : Graph → ℕ → List Record → List Addressed
downs_told graph node own =
    flat_map (λ l. down_told l (mark own l.0)) (filter (λ l. not_dropped (known_drops own) l.0) (ins_of graph node))

-- a host that noted failed hosts, and has nothing more to take back, tells how many it noted
abbrev pub done_told : Graph → ℕ → List Record → List Addressed
done_told graph node own =
    if is_host graph node && (nat_lt 0 (length (noted_hosts own)) && not (is_recalling (sender_calls graph node own)))
    then record { to = Controller; control = Done (record { 0 = node }) (length (noted_hosts own)) } ∷ [] else []

-- a node that knows dropped links tells how many
abbrev pub gone_told : ℕ → List Record → List Addressed
gone_told node own =
    if nat_lt 0 (length (known_drops own)) then record { to = Controller; control = Gone (record { 0 = node }) (length (known_drops own)) } ∷ [] else []

-- the control messages that a node owes after a record, by the event: each tick tells them again
abbrev pub control_of : Graph → ℕ → List Record → Event → List Addressed
control_of graph node own (Tick n now) = downs_told graph node own ++ done_told graph node own ++ gone_told node own
control_of graph node own _ = []

-- the control messages that the record puts
abbrev pub control : Graph → ℕ → List Record → Record → List Addressed
control graph node own r = control_of graph node (r ∷ own) r.event
