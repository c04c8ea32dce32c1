-- What a record brings to a host.
use Rattle.std.specs.Prelude.{ℕ, ◌==◌, ◌&&◌, not, if◌then◌else◌, Bool, true, false, List, Option, None, Some}
use Rattle.pipe_base.specs.declared.message.Key.{Key}
use Rattle.pipe_base.specs.declared.message.Service.{Service}
use Rattle.pipe_base.specs.declared.message.Service.TheVariants.{BestEffort, Reliable}
use Rattle.pipe_base.specs.declared.packet.Packet.{Packet}
use Rattle.pipe_base.specs.declared.packet.PacketKind.{PacketKind}
use Rattle.pipe_base.specs.declared.packet.PacketKind.TheVariants.{Beacon, Plain, Prepare}
use Rattle.pipe_graph.specs.Graph.{Graph, is_host}
use Rattle.pipe_model.specs.declared.record.Record.{Record}
use Rattle.pipe_model.specs.Moments.{received}

abbrev pub is_beacon : PacketKind → Bool
is_beacon Beacon = true
is_beacon _ = false

-- the packet that is received at a host, is addressed to it and is no beacon
abbrev pub gets_of : Graph → ℕ → Option (ℕ × Packet) → Option Packet
gets_of graph node None = None
gets_of graph node (Some q) = if is_host graph node && ((q.1.dst.0 == node)
    && not (is_beacon q.1.kind)) then Some q.1 else None

-- What a host gets in a record: a message, or the answer to one.
abbrev pub gets : Graph → ℕ → List Record → Record → Option Packet
gets graph node own r = gets_of graph node (received graph node own r)

-- The packets that carry messages of a service. A packet carries at most one message.
abbrev pub carries : Service → PacketKind → Bool
carries BestEffort Plain = true
carries Reliable Prepare = true
carries _ _ = false

abbrev pub message_of : Service → Option Packet → Option Packet
message_of service None = None
message_of service (Some p) = if carries service p.kind then Some p else None

-- the message of a service that the record brought
abbrev pub got : Service → Graph → ℕ → List Record → Record → Option Packet
got service graph node own r = message_of service (gets graph node own r)

-- where the message of a packet stands in the total order
abbrev pub key_of : Packet → Key
key_of p = record { ts = p.ts; src = p.src }
