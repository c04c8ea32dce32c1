use Rattle.pipe_text_plan.proofs.PlanLaws.{right_gives}
use Rattle.pipe_text_plan.proofs.laws.described_plans_have_names.Goals as goal

pub returns-clause-names : goal.returns-clause-names
returns-clause-names c = right_gives _ (λ described right. right.names)

pub returns-clause-range : goal.returns-clause-range
returns-clause-range c = right_gives _ (λ described right. right.range)
