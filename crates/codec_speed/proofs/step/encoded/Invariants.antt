use Rattle.std.proofs.Common.{◌≡◌, ◌+◌, ◌≤◌, length}
use Rattle.pipe_base.specs.declared.packet.PacketKind.TheVariants.{Plain}
use Rattle.pipe_codec.specs.Packet.{IsSendable}
use Rattle.codec_speed.proofs.step.encoded.Given as goal

abbrev pub invariant-rounds : goal.invariant-rounds
invariant-rounds l = record {
  packet : IsSendable l.packet;
  plain : l.packet.kind ≡ Plain;
  room : 26 + length l.packet.body ≤ length l.out;
}
