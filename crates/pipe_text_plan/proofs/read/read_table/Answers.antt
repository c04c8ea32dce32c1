use Rattle.pipe_text_plan.specs.declared.fault.PlanError.TheVariants.{Plan}
use Rattle.pipe_text_plan.specs.declared.fault.PlanFault.TheVariants.{NotToml}
use Rattle.std.proofs.Common.{refl, sym}
use Rattle.pipe_text_plan.proofs.DescribeLaws.{not_text, text_read}
use Rattle.pipe_text_plan.proofs.NameLaws.{one_fault}
use Rattle.pipe_text_plan.proofs.read.read_table.Goals as goal

pub returns-in_default-clause-fault : goal.returns-in_default-clause-fault
returns-in_default-clause-fault c = λ fault is.
    (one_fault (Plan fault) fault NotToml refl (sym is), not_text c.args.bytes.now c.in_default.ensures.cases.0)

pub returns-in-Ok-table_from_str-clause-ok : goal.returns-in-Ok-table_from_str-clause-ok
returns-in-Ok-table_from_str-clause-ok c =
    text_read c.args.bytes.now c.in-Ok.text.now _ c.in-Ok.ensures.cases.0 c.in-Ok.ensures.cases.1 c.in-Ok-table_from_str.ensures.ok
