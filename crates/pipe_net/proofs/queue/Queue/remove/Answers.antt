use Rattle.std.proofs.Common.{length, ap, arith}
use Rattle.std.proofs.lemmas.List.Edits.{length-remove}
use Rattle.pipe_net.specs.Blocks.{joined}
use Rattle.pipe_net.proofs.queue.Queue.remove.Goals as goal

pub invariant_of-self : goal.invariant_of-self
invariant_of-self g c =
    let all = joined c.self.inside.blocks.items in
    omega (
      arith,
      c.self.invariant,
      c.if-place-self.false,
      ap length (c.take.ensures.left c.args.place c.find-place.ensures),
      length-remove all c.args.place (omega (arith, c.self.invariant, c.if-place-self.false)),
    )
