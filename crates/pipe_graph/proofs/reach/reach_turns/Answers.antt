use Rattle.pipe_graph.proofs.Turn.{reach_turns}
use Rattle.pipe_graph.proofs.reach.reach_turns.Goals as goal

pub returns : goal.returns
returns c = reach_turns
