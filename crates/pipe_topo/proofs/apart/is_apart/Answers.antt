use Rattle.pipe_topo.proofs.FaultLaws.{apart_is}
use Rattle.pipe_topo.proofs.apart.is_apart.Goals as goal

pub returns : goal.returns
returns c = apart_is c.args.wiring.now c.args.all.now c.args.a c.args.b c.in_ok-reached.reached c.requires.all c.if-b-a.false c.in_ok-reached.ensures
