-- Packets that find a way. A router answers for a sender and a receiver the link on which a packet is put, or none.
use Rattle.std.specs.Prelude.{◌≡◌, ℕ, ◌+◌, ◌%◌, List, [], ◌∷◌, ◌++◌, length, Option, None, Some, map, count_by, is_none, slice_get, slice_index_or}
use Rattle.pipe_base.specs.declared.name.LinkId.{LinkId}
use Rattle.pipe_base.specs.declared.packet.Packet.{Packet}
use Rattle.pipe_base.specs.declared.step.Step.{Step}
use Rattle.pipe_base.specs.Packets.{Fields, beacon}

-- the links take turns
abbrev pub in_turn : List LinkId → ℕ → Option LinkId
in_turn [] turn = None
in_turn (l ∷ ls) turn = slice_get (l ∷ ls) (turn % length (l ∷ ls))

-- what a router answers that has these links for each receiver
abbrev pub picked : List (List LinkId) → ℕ → ℕ → Option LinkId
picked links src dst = in_turn (slice_index_or links dst []) (src + dst)

-- a packet before others, where it has a way
abbrev pub on_way : Option LinkId → Packet → List (LinkId × Packet) → List (LinkId × Packet)
on_way None p puts = puts
on_way (Some l) p puts = (l, p) ∷ puts

-- the packets that have a way, each on its link
abbrev pub routed : (ℕ → ℕ → Option LinkId) → List Packet → List (LinkId × Packet)
routed way [] = []
routed way (p ∷ ps) = on_way (way p.src.0 p.dst.0) p (routed way ps)

-- how many packets have no way
abbrev pub lost : (ℕ → ℕ → Option LinkId) → List Packet → ℕ
lost way packets = count_by (λ p. is_none (way p.src.0 p.dst.0)) packets

-- the step with these packets put on their ways, and those without one counted
abbrev pub with_ways : (ℕ → ℕ → Option LinkId) → List Packet → Step → Step
with_ways way packets step =
    record step { put = step.put ++ routed way packets; unrouted = step.unrouted + lost way packets }

-- the step with a beacon put on each of these links
abbrev pub with_beacons : List LinkId → Fields → Step → Step
with_beacons links f step = record step { put = step.put ++ map (λ l. (l, beacon f)) links }

-- nothing but what was put, or counted as without a way, has changed
abbrev pub PutsAlone : Step → Step → Type 0
PutsAlone old new = new ≡ record old { put = new.put; unrouted = new.unrouted }
