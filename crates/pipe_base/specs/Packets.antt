-- The packets that nodes make, and the two barriers that they carry.
use Rattle.std.specs.Prelude.{ℕ, List, []}
use Rattle.pipe_base.specs.declared.name.HostId.{HostId}
use Rattle.pipe_base.specs.declared.name.Ts.{Ts}
use Rattle.pipe_base.specs.declared.packet.Packet.{Packet}
use Rattle.pipe_base.specs.declared.message.Service.{Service}
use Rattle.pipe_base.specs.declared.message.Service.TheVariants.{BestEffort, Reliable}
use Rattle.pipe_base.specs.declared.packet.PacketKind.TheVariants.{Ack, Beacon, Plain, Prepare, Recall, RecallAck}

-- the two barriers of a packet
pub record Fields : Type 0 where
  pub be : ℕ
  pub commit : ℕ

-- a number as a timestamp
abbrev pub ts_of : ℕ → Ts
ts_of n = record { 0 = n }

-- a best-effort message to one receiver of a scattering
abbrev pub message_to : HostId → Ts → Fields → (HostId × List ℕ) → Packet
message_to src ts f dest =
    record { kind = Plain; src = src; dst = dest.0; ts = ts; be = ts_of f.be; commit = ts_of f.commit; body = dest.1 }

-- a reliable message to one receiver of a scattering
abbrev pub prepare_to : HostId → Ts → Fields → (HostId × List ℕ) → Packet
prepare_to src ts f dest = record (message_to src ts f dest) { kind = Prepare }

-- a message of a service to one receiver of a scattering
abbrev pub sent_to : Service → HostId → Ts → Fields → (HostId × List ℕ) → Packet
sent_to BestEffort src ts f dest = message_to src ts f dest
sent_to Reliable src ts f dest = prepare_to src ts f dest

-- a receiver's acknowledgement of a reliable message, to the sender of the message
abbrev pub ack_to : HostId → Fields → Packet → Packet
ack_to src f p =
    record { kind = Ack; src = src; dst = p.src; ts = p.ts; be = ts_of f.be; commit = ts_of f.commit; body = [] }

-- the taking back of the reliable message to one receiver of a scattering
abbrev pub recall_to : HostId → Ts → Fields → (HostId × List ℕ) → Packet
recall_to src ts f dest = record (message_to src ts f dest) { kind = Recall; body = [] }

-- a receiver's answer that it took the message back, to the sender of the message
abbrev pub recall_ack_to : HostId → Fields → Packet → Packet
recall_ack_to src f p = record (ack_to src f p) { kind = RecallAck }

-- a packet that goes on, with the fields of the half that passes it on
abbrev pub forwarded : Fields → Packet → Packet
forwarded f p = record p { be = ts_of f.be; commit = ts_of f.commit }

-- a packet that carries its two barriers alone
abbrev pub beacon : Fields → Packet
beacon f =
    record { kind = Beacon; src = record { 0 = 0 }; dst = record { 0 = 0 }; ts = ts_of 0; be = ts_of f.be; commit = ts_of f.commit; body = [] }
