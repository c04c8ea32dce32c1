use Rattle.std.proofs.Common.{refl}
use Rattle.pipe_barrier.proofs.Standing.{walk_follows, held_follows}
use Rattle.pipe_barrier.proofs.registers.barriers_after.Goals as goal

pub returns : goal.returns
returns c ins past stands =
    walk_follows ins c.args.link c.args.change past c.args.links.now c.args.barriers c.follow.result c.links.be c.links.commit c.links.register-index stands c.links-test.false
    c.links.invariant.be_is c.links.invariant.commit_is c.follow.ensures.be c.follow.ensures.commit

pub returns-then-are_held : goal.returns-then-are_held
returns-then-are_held c ins past stands =
    held_follows ins c.args.link c.args.change past c.args.links.now c.args.barriers stands (c.if-are_held.ensures refl)
