use Rattle.pipe_graph.proofs.PathLaws.{path_more}
use Rattle.pipe_graph.proofs.paths.larger_sets_have_paths.Goals as goal

pub returns : goal.returns
returns c = path_more
