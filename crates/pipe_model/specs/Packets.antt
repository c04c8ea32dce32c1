-- All packets of a run: those that wait on links and those that nodes received.
use Rattle.std.specs.Prelude.{ℕ, List, [], ◌∷◌, All, Option, None, Some}
use Rattle.pipe_base.specs.declared.packet.Packet.{Packet}
use Rattle.pipe_graph.specs.Graph.{Graph}
use Rattle.pipe_model.specs.declared.record.Record.{Record}
use Rattle.pipe_model.specs.Acting.{own}
use Rattle.pipe_model.specs.Moments.{received}
use Rattle.pipe_model.specs.Waiting.{waiting_on}

-- one receipt more, where there is one
abbrev pub with_receipt : Option (ℕ × Packet) → List (ℕ × Packet) → List (ℕ × Packet)
with_receipt None receipts = receipts
with_receipt (Some q) receipts = q ∷ receipts

-- the packets that a node received by its own records, each with its link, newest first
abbrev pub receipts : Graph → ℕ → List Record → List (ℕ × Packet)
receipts graph node [] = []
receipts graph node (r ∷ own) = with_receipt (received graph node own r) (receipts graph node own)

-- each packet that waits on a link has the property, and each that some node received
pub record OfAllPackets (P : Packet → Type 0) (graph : Graph) (past : List Record) : Type 0 where
  pub waiting : (link : ℕ) → All P (waiting_on link past)
  pub received : (node : ℕ) → All (λ q. P q.1) (receipts graph node (own graph node past))
