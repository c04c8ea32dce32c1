use Rattle.pipe_graph.proofs.RouteLaws.{firsts_by_host_alike, route_alike}
use Rattle.pipe_graph.proofs.routes.agreeing_sets_route_alike.Goals as goal

pub returns-clause-lists : goal.returns-clause-lists
returns-clause-lists c = firsts_by_host_alike

pub returns-clause-routes : goal.returns-clause-routes
returns-clause-routes c = route_alike
