use Rattle.std.proofs.Common.{List, sym, subst, take}
use Rattle.pipe_base.specs.Moment.{Moment}
use Rattle.pipe_base.specs.Entries.{with_entries}
use Rattle.pipe_barrier.specs.Registers.{Stands}
use Rattle.pipe_barrier.proofs.InLinkLaws.{dropped_turn}
use Rattle.pipe_barrier.proofs.registers.Registers.remove_each.Goals as goal

pub drops-preserved : goal.drops-preserved
drops-preserved c ins past stands =
    let links = c.args.links.now in
    let i = c.drops.link-index in
    subst (λ (moments : List Moment). Stands ins c.remove.new.self moments) (sym (dropped_turn ins links i (record { 0 = 0 }) past c.drops-test.true))
    (c.remove.ensures ins (with_entries ins (take i links) past) (c.drops.invariant ins past stands))
