use Rattle.pipe_graph.proofs.PathLaws.{path_carries}
use Rattle.pipe_graph.proofs.paths.paths_carry.Goals as goal

pub returns : goal.returns
returns c = path_carries
