use Rattle.std.proofs.Common.{ap, sym, ◌∙◌, option_and_then}
use Rattle.toml.specs.Data.{as_array}
use Rattle.pipe_text_plan.proofs.KeyLaws.{member_none, member_some}
use Rattle.pipe_text_plan.proofs.array.array_at.Goals as goal

pub returns-in-Some : goal.returns-in-Some
returns-in-Some c =
    c.as_array.ensures
    ∙ sym (ap (option_and_then as_array) (member_some c.get.result c.args.key.now c.args.table.now.entries c.in-Some.value c.get.ensures.value c.in-Some.is))

pub returns-in-None : goal.returns-in-None
returns-in-None c =
    sym (ap (option_and_then as_array) (member_none c.get.result c.args.key.now c.args.table.now.entries c.get.ensures.value c.in-None.is))
