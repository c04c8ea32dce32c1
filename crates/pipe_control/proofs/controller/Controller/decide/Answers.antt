use Rattle.pipe_control.proofs.controller.Controller.decide.Goals as goal

pub returns-clause-ok : goal.returns-clause-ok
returns-clause-ok c = λ v stands. c.follow.ensures c.args.topology.now v stands (c.in_ok-decision.ensures.change v stands)
