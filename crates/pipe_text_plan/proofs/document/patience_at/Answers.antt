use Rattle.std.proofs.Common.{codes, ap, sym, ◌∙◌}
use Rattle.pipe_text_plan.specs.Keys.{patience_or}
use Rattle.pipe_text_plan.proofs.KeyLaws.{member_none, member_some}
use Rattle.pipe_text_plan.proofs.document.patience_at.Goals as goal

pub returns-in-Some : goal.returns-in-Some
returns-in-Some c =
    c.patience_in.ensures
    ∙ sym (ap patience_or (member_some c.get.result (codes "patience") c.args.table.now.entries c.in-Some.value c.get.ensures.value c.in-Some.is))

pub returns-in-None : goal.returns-in-None
returns-in-None c = sym (ap patience_or (member_none c.get.result (codes "patience") c.args.table.now.entries c.get.ensures.value c.in-None.is))
