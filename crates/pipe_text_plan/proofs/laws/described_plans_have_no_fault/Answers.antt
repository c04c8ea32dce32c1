use Rattle.pipe_text_plan.proofs.PlanLaws.{right_gives}
use Rattle.pipe_text_plan.proofs.laws.described_plans_have_no_fault.Goals as goal

pub returns : goal.returns
returns c = right_gives _ (λ described right. (right.plan, right.faultless))
