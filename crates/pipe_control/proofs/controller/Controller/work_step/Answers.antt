use Rattle.std.proofs.Common.{◌∙◌}
use Rattle.pipe_control.proofs.KnownLaws.{step_is}
use Rattle.pipe_control.proofs.controller.Controller.work_step.Goals as goal

pub returns-clause-step : goal.returns-clause-step
returns-clause-step c = λ v stands.
    c.in_ok-kept.ensures ∙ step_is c.args.topology.now v c.in_ok-decision.decision c.new-step.result c.new-step.ensures (c.in_ok-decision.ensures.decision v stands)
