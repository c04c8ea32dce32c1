use Rattle.pipe_graph.proofs.RouteLaws.{begins_is_first}
use Rattle.pipe_graph.proofs.routes.shortest_are_firsts.Goals as goal

pub returns : goal.returns
returns c = begins_is_first
