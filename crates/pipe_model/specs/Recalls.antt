-- What a host was told to take back.
use Rattle.std.specs.Prelude.{ℕ, ◌&&◌, ◌||◌, nat_le, Bool, true, false, List, [], ◌∷◌, Option, None, Some}
use Rattle.pipe_base.specs.declared.message.Key.{Key}
use Rattle.pipe_base.specs.declared.packet.Packet.{Packet}
use Rattle.pipe_base.specs.declared.packet.PacketKind.{PacketKind}
use Rattle.pipe_base.specs.declared.packet.PacketKind.TheVariants.{Recall}
use Rattle.pipe_base.specs.declared.packet.Plane.TheVariants.{Commit}
use Rattle.pipe_graph.specs.Graph.{Graph}
use Rattle.pipe_base.specs.Messages.{same_key}
use Rattle.pipe_model.specs.declared.record.Record.{Record}
use Rattle.pipe_model.specs.Got.{gets, key_of}
use Rattle.pipe_model.specs.Moments.{barrier_at}

abbrev pub is_recall : PacketKind → Bool
is_recall Recall = true
is_recall _ = false

-- the packet takes the message with this key back
abbrev pub takes_back : Key → Option Packet → Bool
takes_back key None = false
takes_back key (Some p) = is_recall p.kind && same_key (key_of p) key

-- The host was told by the sender to take the message back.
abbrev pub got_recall : Graph → ℕ → Key → List Record → Bool
got_recall graph host key [] = false
got_recall graph host key (r ∷ own) = takes_back key (gets graph host own r) || got_recall graph host key own

-- The host was told so before its commit barrier was above the timestamp.
abbrev pub recalled_in_time : Graph → ℕ → Key → List Record → Bool
recalled_in_time graph host key [] = false
recalled_in_time graph host key (r ∷ own) =
    (takes_back key (gets graph host own r) && nat_le (barrier_at Commit graph host own) key.ts.0)
    || recalled_in_time graph host key own
