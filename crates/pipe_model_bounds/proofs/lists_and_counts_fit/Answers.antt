use Rattle.pipe_model_bounds.proofs.Sized.{lists_sized}
use Rattle.pipe_model_bounds.proofs.lists_and_counts_fit.Goals as goal

pub returns : goal.returns
returns c = lists_sized
