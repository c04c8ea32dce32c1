use Rattle.pipe_graph.proofs.RouteLaws.{picked_is_route}
use Rattle.pipe_graph.proofs.routes.lists_give_routes.Goals as goal

pub returns : goal.returns
returns c = picked_is_route
