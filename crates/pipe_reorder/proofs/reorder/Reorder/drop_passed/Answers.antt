use Rattle.std.proofs.Common.{sym, subst, nat_le}
use Rattle.pipe_base.specs.Messages.{IsInOrder}
use Rattle.pipe_base.proofs.KeyOrder.{order_filter}
use Rattle.pipe_reorder.proofs.reorder.Reorder.drop_passed.Goals as goal

pub invariant_of-self : goal.invariant_of-self
invariant_of-self c =
    subst IsInOrder (sym c.drop_below.ensures) (order_filter (λ m. nat_le c.args.barrier.0 m.0.ts.0) c.self.inside.held.entries c.self.invariant)
