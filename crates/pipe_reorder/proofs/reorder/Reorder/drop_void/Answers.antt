use Rattle.std.proofs.Common.{not, sym, subst}
use Rattle.pipe_base.specs.Failed.{is_void}
use Rattle.pipe_base.specs.Messages.{IsInOrder}
use Rattle.pipe_base.proofs.KeyOrder.{order_filter}
use Rattle.pipe_reorder.proofs.reorder.Reorder.drop_void.Goals as goal

pub invariant_of-self : goal.invariant_of-self
invariant_of-self c =
    subst IsInOrder (sym c.drop_void.ensures) (order_filter (λ m. not (is_void c.self.inside.failed m.0)) c.self.inside.held.entries c.self.invariant)
