use Rattle.pipe_topo.proofs.LinkLaws.{plan_is_graph}
use Rattle.pipe_topo.proofs.MirrorLaws.{plan_mirrored}
use Rattle.pipe_topo.proofs.laws.plans_are_mirrored.Goals as goal

pub returns-clause-graph : goal.returns-clause-graph
returns-clause-graph c = plan_is_graph

pub returns-clause-mirrored : goal.returns-clause-mirrored
returns-clause-mirrored c = plan_mirrored
