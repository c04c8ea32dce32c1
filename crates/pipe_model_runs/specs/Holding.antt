-- What a host received and holds: the record that brought a message.
use Rattle.std.specs.Prelude.{◌≡◌, ◌⊎◌, ℕ, List, [], ◌∷◌, Some}
use Rattle.pipe_base.specs.declared.message.Entry.{Entry}
use Rattle.pipe_base.specs.declared.message.Service.{Service}
use Rattle.pipe_base.specs.declared.packet.Packet.{Packet}
use Rattle.pipe_base.specs.declared.step.Fate.TheVariants.{Held}
use Rattle.pipe_base.specs.Messages.{entry_of}
use Rattle.pipe_graph.specs.Graph.{Graph}
use Rattle.pipe_model.specs.declared.record.Record.{Record}
use Rattle.pipe_model.specs.Fate.{fate_in}
use Rattle.pipe_model.specs.Got.{got, key_of}

-- the record received a packet with this message of the service, addressed to the host, and the message was held
pub record IsReceipt (service : Service) (graph : Graph) (node : ℕ) (own : List Record) (r : Record) (entry : Entry)
    : Type 0 where
  pub packet : Packet
  pub received : got service graph node own r ≡ Some packet
  pub is_held : fate_in service graph node own r ≡ Some Held
  pub message : entry_of (key_of packet, packet.body) ≡ entry

-- some own record of the host received the message, and it was held
abbrev pub WasHeld : Service → Graph → ℕ → Entry → List Record → Type 0
WasHeld service graph node entry [] = ⊥
WasHeld service graph node entry (r ∷ own) =
    IsReceipt service graph node own r entry ⊎ WasHeld service graph node entry own
