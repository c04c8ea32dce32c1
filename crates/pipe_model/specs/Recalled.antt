-- What is told when a message is taken back: by its sender, that the scattering is recalled, and by the receiver, that it was
-- told so.
use Rattle.std.specs.Prelude.{◌≡◌, ℕ, true, List, All}
use Rattle.pipe_base.specs.declared.packet.Packet.{Packet}
use Rattle.pipe_graph.specs.Graph.{Graph}
use Rattle.pipe_base.specs.Scattering.{SenderCall, begun, is_begun}
use Rattle.pipe_base.specs.Settled.{is_recalled}
use Rattle.pipe_model.specs.declared.record.Record.{Record}
use Rattle.pipe_model.specs.Acting.{own}
use Rattle.pipe_model.specs.Packets.{OfAllPackets}
use Rattle.pipe_model.specs.Recalls.{got_recall, is_recall}
use Rattle.pipe_model.specs.Sender.{is_recall_ack, sender_calls}

-- the scattering with this timestamp was begun and is recalled
pub record IsTakenBack (calls : List SenderCall) (ts : ℕ) : Type 0 where
  pub sent : is_begun calls ts ≡ true
  pub recalled : All (λ s. s.ts.0 ≡ ts → is_recalled calls s ≡ true) (begun calls)

-- a message is taken back only where its sender recalls the scattering
abbrev pub IsRecallTrue : Graph → List Record → Packet → Type 0
IsRecallTrue graph past p = is_recall p.kind ≡ true
    → IsTakenBack (sender_calls graph p.src.0 (own graph p.src.0 past)) p.ts.0

-- Recalls are true: each that waits on a link or was received means that its scattering is recalled.
abbrev pub AreRecallsTrue : Graph → List Record → Type 0
AreRecallsTrue graph past = OfAllPackets (IsRecallTrue graph past) graph past

-- the answer to a recall comes from a host that got the recall
abbrev pub IsRecallAckTrue : Graph → List Record → Packet → Type 0
IsRecallAckTrue graph past p = is_recall_ack p.kind ≡ true
    → got_recall graph p.src.0 (record { ts = p.ts; src = p.dst }) (own graph p.src.0 past) ≡ true

-- Answers to recalls are true: each that waits on a link or was received means that its sender was told to take the message back.
abbrev pub AreRecallAcksTrue : Graph → List Record → Type 0
AreRecallAcksTrue graph past = OfAllPackets (IsRecallAckTrue graph past) graph past
