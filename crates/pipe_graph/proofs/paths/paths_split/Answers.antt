use Rattle.pipe_graph.proofs.PathLaws.{path_split}
use Rattle.pipe_graph.proofs.paths.paths_split.Goals as goal

pub returns : goal.returns
returns c = path_split
