use Rattle.std.proofs.Common.{arith, refl}
use Rattle.codec_speed.proofs.step.encoded.Goals as goal

pub encode-size-requires-clause-packet : goal.encode-size-requires-clause-packet
encode-size-requires-clause-packet c = record {
  stamp = omega arith;
  best_effort = c.rounds.invariant.packet.best_effort;
  commit = c.rounds.invariant.packet.commit;
  kind = rw c.rounds.invariant.plain refl;
}
