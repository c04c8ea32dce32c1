use Rattle.pipe_reorder.proofs.Walks.{first_tells}
use Rattle.pipe_reorder.proofs.reorder.has_below.Goals as goal

-- src/reorder.rt:308:1
pub returns-in-Some : goal.returns-in-Some
returns-in-Some c = first_tells c.args.barrier.0 c.args.held.now.entries (c.in-Some.key.now, c.in-Some.field-0-1.now) c.requires c.in-Some.ensures.first
