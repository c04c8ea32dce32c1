use Rattle.pipe_graph.proofs.Rounds.{is_reach}
use Rattle.pipe_graph.proofs.reach.path_is_reach.Goals as goal

pub returns : goal.returns
returns c = is_reach
