use Rattle.pipe_graph.proofs.Turn.{path_turns}
use Rattle.pipe_graph.proofs.paths.paths_turn.Goals as goal

pub returns : goal.returns
returns c = path_turns
