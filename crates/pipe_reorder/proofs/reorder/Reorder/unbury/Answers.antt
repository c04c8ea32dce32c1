use Rattle.std.proofs.Common.{Option, ap, ◌∙◌}
use Rattle.pipe_base.specs.declared.message.Key.{Key}
use Rattle.pipe_reorder.specs.Buffer.{buffer_of, with_unburied}
use Rattle.pipe_reorder.proofs.TombstoneLaws.{unburied, unburied_is}
use Rattle.pipe_reorder.proofs.reorder.Reorder.unbury.Goals as goal

pub returns-clause-undoes : goal.returns-clause-undoes
returns-clause-undoes c = λ buffer key before is.
    let inside = c.self.inside in
    unburied_is c.args.self.now (buffer_of inside.service inside.barrier inside.failed inside.tombstones.keys inside.newest inside.held.entries) c.remove_newest.new.tombstones.keys c.args.before
    c.self.view_is c.remove_newest.ensures
    ∙ ap (λ (o : Option Key). with_unburied o c.args.self.now) before ∙ ap (with_unburied buffer.newest) is ∙ unburied key buffer
