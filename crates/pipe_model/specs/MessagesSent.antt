-- Packets have their scattering: each message that waits on a link or was received was sent.
use Rattle.std.specs.Prelude.{◌≡◌, true, List}
use Rattle.pipe_base.specs.declared.message.Service.{Service}
use Rattle.pipe_base.specs.declared.packet.Packet.{Packet}
use Rattle.pipe_graph.specs.Graph.{Graph}
use Rattle.pipe_base.specs.Messages.{entry_of}
use Rattle.pipe_model.specs.declared.record.Record.{Record}
use Rattle.pipe_model.specs.Got.{carries, key_of}
use Rattle.pipe_model.specs.Order.{WasSent}
use Rattle.pipe_model.specs.Packets.{OfAllPackets}

-- A packet with a message of a service belongs to an accepted send of this service by its sender, stamped with its timestamp,
-- which lists its receiver with its body.
abbrev pub IsMessageSent : List Record → Packet → Type 0
IsMessageSent past p = (service : Service) → carries service p.kind ≡ true
    → WasSent service p.dst.0 (entry_of (key_of p, p.body)) past

abbrev pub AreMessagesSent : Graph → List Record → Type 0
AreMessagesSent graph past = OfAllPackets (IsMessageSent past) graph past
