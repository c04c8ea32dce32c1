use Rattle.pipe_model_bounds.proofs.Dropped.{dropped_once}
use Rattle.pipe_model_bounds.proofs.links_are_dropped_once.Goals as goal

pub returns : goal.returns
returns c = dropped_once
