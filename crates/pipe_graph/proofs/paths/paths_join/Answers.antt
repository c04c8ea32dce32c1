use Rattle.pipe_graph.proofs.PathLaws.{path_append}
use Rattle.pipe_graph.proofs.paths.paths_join.Goals as goal

pub returns : goal.returns
returns c = path_append
