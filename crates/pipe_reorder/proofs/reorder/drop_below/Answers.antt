use Rattle.std.proofs.Common.{sym, ◌∙◌}
use Rattle.pipe_reorder.proofs.Walks.{all_stay}
use Rattle.pipe_reorder.proofs.reorder.drop_below.Goals as goal

pub returns-then-barrier-key : goal.returns-then-barrier-key
returns-then-barrier-key c =
    sym (all_stay c.args.barrier.0 c.entries.held.entries (c.in-Some.key.now, c.in-Some.field-0-1.now) c.entries.invariant.order c.in-Some.ensures.first c.if-barrier-key.true)
    ∙ c.entries.invariant.left
