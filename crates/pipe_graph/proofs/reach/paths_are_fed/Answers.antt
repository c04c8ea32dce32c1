use Rattle.pipe_graph.proofs.Rounds.{fed_along}
use Rattle.pipe_graph.proofs.reach.paths_are_fed.Goals as goal

pub returns : goal.returns
returns c = fed_along
