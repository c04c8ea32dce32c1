-- Packets as bytes: the one spelling of each, and the first fault of bytes that spell none.
use Rattle.std.specs.Prelude.{◌≡◌, ℕ, ◌+◌, ◌^◌, ◌<◌, ◌≤◌, ◌==◌, ◌&&◌, not, nat_lt, nat_le, Bool, true, if◌then◌else◌, IsTrue, List, [], ◌∷◌, ◌++◌, length, drop, slice_get, slice_index, Option, Some, None}
use Rattle.pipe_base.specs.declared.packet.Packet.{Packet}
use Rattle.pipe_base.specs.declared.packet.PacketKind.{PacketKind}
use Rattle.pipe_base.specs.declared.packet.PacketKind.TheVariants.{Beacon, Plain, Prepare, Ack, Recall, RecallAck}
use Rattle.pipe_base.specs.Limits.{last_stamp, most_body}
use Rattle.pipe_codec.specs.declared.bad.Bad.{Bad}
use Rattle.pipe_codec.specs.declared.bad.Bad.TheVariants.{Short, Version, Kind, Field, Length}
use Rattle.pipe_codec.specs.declared.packet.PacketRef.{PacketRef}
use Rattle.pipe_codec.specs.Number.{two_bytes, six_bytes, two_at, six_at}

-- the packet that is seen in bytes
abbrev pub packet_seen : PacketRef → Packet
packet_seen p =
    record { kind = p.kind; src = p.src; dst = p.dst; ts = p.ts; be = p.be; commit = p.commit; body = p.body.now }

-- ---- the grammar

-- a beacon names no hosts and no time, and messages alone have bodies
abbrev pub fits_kind : PacketKind → ℕ → ℕ → ℕ → ℕ → Bool
fits_kind Beacon src dst ts body = (src == 0) && (dst == 0) && (ts == 0) && (body == 0)
fits_kind Plain _ _ _ _ = true
fits_kind Prepare _ _ _ _ = true
fits_kind _ _ _ _ body = body == 0

-- a packet whose fields go together and fit their bytes, as far as the types of the fields do not say so
pub record IsSendable (p : Packet) : Type 0 where
  pub stamp : p.ts.0 ≤ last_stamp
  pub best_effort : p.be.0 < 2 ^ 48
  pub commit : p.commit.0 < 2 ^ 48
  pub kind : IsTrue (fits_kind p.kind p.src.0 p.dst.0 p.ts.0 (length p.body))

-- a packet that has a spelling
pub record IsPacket (p : Packet) : Type 0 where
  pub sendable : IsSendable p
  pub src : p.src.0 < 2 ^ 16
  pub dst : p.dst.0 < 2 ^ 16
  pub body : length p.body ≤ most_body

-- ---- the spelling

-- the kinds in the order of their codes
abbrev pub packet_kinds : List PacketKind
packet_kinds = Beacon ∷ Plain ∷ Prepare ∷ Ack ∷ Recall ∷ RecallAck ∷ []

-- the code of a kind: its place in that order
abbrev pub packet_code : PacketKind → ℕ
packet_code Beacon = 0
packet_code Plain = 1
packet_code Prepare = 2
packet_code Ack = 3
packet_code Recall = 4
packet_code RecallAck = 5

-- the version and the kind, then the fields in order, the length of the body last
abbrev pub packet_header : Packet → List ℕ
packet_header p =
    1 ∷ packet_code p.kind ∷ two_bytes p.src.0 ++ two_bytes p.dst.0 ++ six_bytes p.ts.0 ++ six_bytes p.be.0 ++ six_bytes p.commit.0
    ++ two_bytes (length p.body)

-- the one spelling of a packet
unfoldable pub packet_bytes : Packet → List ℕ
packet_bytes p = packet_header p ++ p.body

-- ---- the faults

-- the time is a stamp, the body is not too long, and both are of the kind, as are the hosts
abbrev pub fields_fit : PacketKind → ℕ → ℕ → ℕ → ℕ → Bool
fields_fit kind src dst ts body = nat_le ts last_stamp && nat_le body most_body && fits_kind kind src dst ts body

-- the first fault behind the kind
abbrev pub fault_behind_kind : PacketKind → List ℕ → Option Bad
fault_behind_kind kind bytes =
    if not (fields_fit kind (two_at 2 bytes) (two_at 4 bytes) (six_at 6 bytes) (two_at 24 bytes)) then Some Field
    else if not (length bytes == 26 + two_at 24 bytes) then Some Length
    else None

-- the first fault where this is the kind, if there is one
abbrev pub fault_at_kind : Option PacketKind → List ℕ → Option Bad
fault_at_kind None bytes = Some Kind
fault_at_kind (Some kind) bytes = fault_behind_kind kind bytes

-- the first fault of bytes that spell no packet
unfoldable pub packet_fault : List ℕ → Option Bad
packet_fault bytes =
    if nat_lt (length bytes) 26 then Some Short
    else if not (slice_index bytes 0 == 1) then Some Version
    else fault_at_kind (slice_get packet_kinds (slice_index bytes 1)) bytes

-- ---- what is read

-- a header of this version with the code of this kind
pub record HasKind (kind : PacketKind) (bytes : List ℕ) : Type 0 where
  pub long : 26 ≤ length bytes
  pub version : slice_index bytes 0 ≡ 1
  pub code : slice_index bytes 1 ≡ packet_code kind

-- the fields of a header of this kind, and all that comes after it
abbrev pub packet_fields : PacketKind → List ℕ → Packet
packet_fields kind bytes = record {
  kind = kind;
  src = record { 0 = two_at 2 bytes };
  dst = record { 0 = two_at 4 bytes };
  ts = record { 0 = six_at 6 bytes };
  be = record { 0 = six_at 12 bytes };
  commit = record { 0 = six_at 18 bytes };
  body = drop 26 bytes;
}
