use Rattle.pipe_model_atomic.proofs.Bounds.{promise_bounds}
use Rattle.pipe_model_atomic.proofs.promises_bound_barriers.Goals as goal

pub returns : goal.returns
returns c = λ graph past holds. promise_bounds graph past holds.bounding
