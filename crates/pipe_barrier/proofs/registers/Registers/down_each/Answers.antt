use Rattle.std.proofs.Common.{List, sym, subst, take}
use Rattle.pipe_base.specs.Moment.{Moment, with_downed}
use Rattle.pipe_barrier.specs.Registers.{Stands}
use Rattle.pipe_barrier.proofs.InLinkLaws.{downed_turn}
use Rattle.pipe_barrier.proofs.registers.Registers.down_each.Goals as goal

pub marks-preserved : goal.marks-preserved
marks-preserved c ins past stands =
    let marks = c.args.marks.now in
    let i = c.marks.link-index in
    subst (λ (moments : List Moment). Stands ins c.down.new.self moments) (sym (downed_turn marks i (record { 0 = 0 }, record { 0 = 0 }) past c.marks-test.true))
    (c.down.ensures ins (with_downed (take i marks) past) (c.marks.invariant ins past stands))
