use Rattle.pipe_base.proofs.MessageLaws.{in_order-from_keys}
use Rattle.pipe_reorder.proofs.reorder.Reorder.hold.Goals as goal

pub invariant_of-self-2 : goal.invariant_of-self-2
invariant_of-self-2 c = in_order-from_keys c.insert.new.self.entries c.insert.ensures.ordered
