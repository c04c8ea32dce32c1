use Rattle.pipe_graph.proofs.RouteLaws.{first_begins}
use Rattle.pipe_graph.proofs.routes.firsts_begin_shortest.Goals as goal

pub returns : goal.returns
returns c = first_begins
