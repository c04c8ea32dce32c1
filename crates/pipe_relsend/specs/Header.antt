-- The packets of a scattering that are put again, by what they have in common.
use Rattle.std.specs.Prelude.{ℕ, List}
use Rattle.pipe_base.specs.declared.name.HostId.{HostId}
use Rattle.pipe_base.specs.declared.packet.Packet.{Packet}
use Rattle.pipe_base.specs.Packets.{Fields}
use Rattle.pipe_relsend.specs.declared.resend.Header.{Header}
use Rattle.pipe_relsend.specs.declared.resend.Origin.{Origin}
use Rattle.pipe_relsend.specs.Pending.{again_to}

-- the two barriers of the packets
abbrev pub fields_of : Origin → Fields
fields_of origin = record { be = origin.be.0; commit = origin.commit.0 }

-- the packet to one receiver
abbrev pub packet_again : Header → (HostId × List ℕ) → Packet
packet_again header dest = again_to header.recalls header.origin.src header.ts (fields_of header.origin) dest
