use Rattle.pipe_barrier.proofs.Standing.{stands_after}
use Rattle.pipe_barrier.proofs.registers.change_all.Goals as goal

pub returns : goal.returns
returns c ins past stands =
    stands_after ins c.args.link c.args.change past c.args.links.now c.change_each.new.links c.args.barriers c.barriers_after-after.result stands c.change_each.ensures
    (c.barriers_after-after.ensures ins past stands)
