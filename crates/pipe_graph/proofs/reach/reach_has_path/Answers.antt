use Rattle.pipe_graph.proofs.Rounds.{has_path}
use Rattle.pipe_graph.proofs.reach.reach_has_path.Goals as goal

pub returns : goal.returns
returns c = has_path
