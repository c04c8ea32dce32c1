-- What an acknowledgement tells: its sender holds the reliable message, or held it once.
use Rattle.std.specs.Prelude.{◌≡◌, ℕ, true, List}
use Rattle.pipe_base.specs.declared.message.Key.{Key}
use Rattle.pipe_base.specs.declared.message.Service.TheVariants.{Reliable}
use Rattle.pipe_base.specs.declared.packet.Packet.{Packet}
use Rattle.pipe_graph.specs.Graph.{Graph}
use Rattle.pipe_base.specs.Messages.{has_key}
use Rattle.pipe_model.specs.declared.record.Record.{Record}
use Rattle.pipe_model.specs.Acting.{own}
use Rattle.pipe_model.specs.Fate.{held}
use Rattle.pipe_model.specs.Packets.{OfAllPackets}
use Rattle.pipe_model.specs.Sender.{is_ack}

-- a reliable message had the fate held at a host
abbrev pub HasHeld : Graph → ℕ → Key → List Record → Type 0
HasHeld graph host key past = has_key key (held Reliable graph host (own graph host past)) ≡ true

-- an acknowledgement goes to the sender of the message, from the host that held it
abbrev pub IsAckTrue : Graph → List Record → Packet → Type 0
IsAckTrue graph past p = is_ack p.kind ≡ true → HasHeld graph p.src.0 (record { ts = p.ts; src = p.dst }) past

-- Acknowledgements are true: each that waits on a link or was received means that its sender held the message.
abbrev pub AreAcksTrue : Graph → List Record → Type 0
AreAcksTrue graph past = OfAllPackets (IsAckTrue graph past) graph past
