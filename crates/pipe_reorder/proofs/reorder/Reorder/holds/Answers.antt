use Rattle.std.proofs.Common.{ap, ◌∙◌}
use Rattle.pipe_base.specs.Messages.{has_key}
use Rattle.pipe_base.proofs.MessageLaws.{found_is}
use Rattle.pipe_reorder.specs.Buffer.{Buffer}
use Rattle.pipe_reorder.proofs.reorder.Reorder.holds.Goals as goal

pub returns : goal.returns
returns c =
    c.contains_key.ensures ∙ found_is c.args.key c.self.inside.held.entries ∙ ap (λ (b : Buffer). has_key c.args.key b.messages) c.self.view_is
