use Rattle.std.proofs.Common.{◌∙◌}
use Rattle.pipe_base.proofs.MessageLaws.{in_order-from_keys, removed_is}
use Rattle.pipe_reorder.specs.Buffer.{buffer_of}
use Rattle.pipe_reorder.proofs.TombstoneLaws.{recalled_is}
use Rattle.pipe_reorder.proofs.reorder.Reorder.recall.Goals as goal

pub invariant_of-self : goal.invariant_of-self
invariant_of-self c = in_order-from_keys c.remove.new.self.entries c.remove.ensures.ordered

pub returns-clause-ok : goal.returns-clause-ok
returns-clause-ok c =
    let inside = c.self.inside in
    recalled_is c.args.self.now (buffer_of inside.service inside.barrier inside.failed inside.tombstones.keys inside.newest inside.held.entries) c.remove.new.self.entries c.args.key
    (c.self.view_is ∙ c.in_ok-bury.ensures.ok) (c.remove.ensures.entries ∙ removed_is c.args.key inside.held.entries c.self.invariant)
