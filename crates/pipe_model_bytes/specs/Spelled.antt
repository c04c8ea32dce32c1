-- What travels in a run has a spelling as bytes.
use Rattle.std.specs.Prelude.{List, All}
use Rattle.pipe_graph.specs.Graph.{Graph}
use Rattle.pipe_codec.specs.Control.{IsControl}
use Rattle.pipe_codec.specs.Packet.{IsPacket}
use Rattle.pipe_model.specs.declared.record.Record.{Record}
use Rattle.pipe_model.specs.declared.record.Took.{Took}
use Rattle.pipe_model.specs.declared.record.Took.TheVariants.{Message}
use Rattle.pipe_model.specs.Packets.{OfAllPackets}
use Rattle.pipe_model.specs.Waiting.{waiting_control}

-- each packet that waits on a link has a spelling, and each that some node received
abbrev pub ArePacketsSpelled : Graph → List Record → Type 0
ArePacketsSpelled graph past = OfAllPackets IsPacket graph past

-- so has the control message that was taken
abbrev pub IsTookSpelled : Took → Type 0
IsTookSpelled (Message a) = IsControl a
IsTookSpelled _ = Unit {0}

-- each control message that waits, and each that was received
pub record AreControlsSpelled (past : List Record) : Type 0 where
  pub waiting : All IsControl (waiting_control past)
  pub received : All (λ r. IsTookSpelled r.took) past
