use Rattle.pipe_barrier.proofs.InLinkLaws.{marks_are}
use Rattle.std.proofs.Common.{◌∙◌}
use Rattle.std.proofs.lemmas.Result.{IfOk-weaker}
use Rattle.pipe_barrier.proofs.in_links.InLinks.silent_marks.Goals as goal

pub returns : goal.returns
returns c =
    IfOk-weaker c.find_marks.result _ _
    (λ marks is ins patience moments calls stands.
    is ∙ marks_are patience c.patience.result.0 c.args.now.0 moments calls ins c.links-registers.result.now c.args.self.now.registers.links c.links-quiets.result.now c.args.self.now.silence.links
    (c.patience.ensures ∙ stands.silence_is.patience_is) c.links-registers.ensures c.links-quiets.ensures stands.registers_are.links_are stands.silence_is.links_are)
    c.find_marks.ensures
