use Rattle.pipe_model_atomic.proofs.Bounds.{time_bounds}
use Rattle.pipe_model_atomic.proofs.times_bound_barriers.Goals as goal

pub returns : goal.returns
returns c = λ graph past run holds. time_bounds graph past run holds.bounding
