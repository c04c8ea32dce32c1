-- What waits in a network.
use Rattle.std.specs.Prelude.{ℕ, List, [], ◌∷◌, ◌++◌, remove, slice_index_or, slice_set}
use Rattle.pipe_base.specs.declared.control.Addressed.{Addressed}
use Rattle.pipe_base.specs.declared.packet.Packet.{Packet}
use Rattle.pipe_net.specs.declared.line.Line.{Line}
use Rattle.pipe_net.specs.declared.line.Line.TheVariants.{Open, Cut}

-- what waits on each link, and the control messages that wait, the oldest first
pub record Waits : Type 0 where
  pub lines : List Line
  pub control : List Addressed

-- The packets of a link, the oldest first. On a cut link nothing waits.
abbrev pub packets_of : Line → List Packet
packets_of (Open packets) = packets
packets_of Cut = []

-- a packet more at the end: a cut link loses it
abbrev pub with_packet : Packet → Line → Line
with_packet p (Open packets) = Open (packets ++ p ∷ [])
with_packet p Cut = Cut

-- without the packet at a place
abbrev pub without_packet : ℕ → Line → Line
without_packet place (Open packets) = Open (remove packets place)
without_packet place Cut = Cut

-- all is lost, now and later
abbrev pub cut : Line → Line
cut line = Cut

-- the packets that wait on a link
abbrev pub waiting : ℕ → Waits → List Packet
waiting link w = packets_of (slice_index_or w.lines link Cut)

-- one link is changed, and nothing else
abbrev pub on_link : ℕ → (Line → Line) → Waits → Waits
on_link link change w = record w { lines = slice_set w.lines link (change (slice_index_or w.lines link Cut)) }
