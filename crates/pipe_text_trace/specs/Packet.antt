-- The words of a packet.
use Rattle.std.specs.Prelude.{ℕ, List, [], ◌∷◌, codes, decimal}
use Rattle.pipe_base.specs.declared.packet.Packet.{Packet}
use Rattle.pipe_base.specs.declared.packet.PacketKind.{PacketKind}
use Rattle.pipe_base.specs.declared.packet.PacketKind.TheVariants.{Beacon, Plain, Prepare, Ack, Recall, RecallAck}
use Rattle.pipe_text.specs.Log.{body_text}
use Rattle.pipe_text.specs.Name.{name_of}

-- the word of a kind of packet
abbrev pub kind_word : PacketKind → List ℕ
kind_word Beacon = codes "beacon"
kind_word Plain = codes "plain"
kind_word Prepare = codes "prepare"
kind_word Ack = codes "ack"
kind_word Recall = codes "recall"
kind_word RecallAck = codes "recallack"

-- the two barriers and the words after them
abbrev pub barrier_words : Packet → List (List ℕ) → List (List ℕ)
barrier_words p rest = decimal p.be.0 ∷ decimal p.commit.0 ∷ rest

-- sender, receiver, timestamp and the two barriers, and the words after them
abbrev pub message_words : List (List ℕ) → Packet → List (List ℕ) → List (List ℕ)
message_words names p rest = name_of names p.src.0 ∷ name_of names p.dst.0 ∷ decimal p.ts.0 ∷ barrier_words p rest

-- what a packet of a kind carries: a beacon has the two barriers alone, and the two kinds of message have a body
abbrev pub carried_words : List (List ℕ) → PacketKind → Packet → List (List ℕ)
carried_words names Beacon p = barrier_words p []
carried_words names Plain p = message_words names p (body_text p.body ∷ [])
carried_words names Prepare p = message_words names p (body_text p.body ∷ [])
carried_words names Ack p = message_words names p []
carried_words names Recall p = message_words names p []
carried_words names RecallAck p = message_words names p []

-- a packet: its kind, and what it carries
abbrev pub packet_words : List (List ℕ) → Packet → List (List ℕ)
packet_words names p = kind_word p.kind ∷ carried_words names p.kind p
