use Rattle.std.proofs.Common.{◌∙◌}
use Rattle.pipe_text_plan.proofs.KeyLaws.{extra_is}
use Rattle.pipe_text_plan.proofs.document.has_extra.Goals as goal

pub returns : goal.returns
returns c = c.has_other_key.ensures ∙ extra_is c.args.table.now.entries
