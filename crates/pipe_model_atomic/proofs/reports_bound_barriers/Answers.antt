use Rattle.pipe_model_atomic.proofs.Bounds.{report_bounds}
use Rattle.pipe_model_atomic.proofs.reports_bound_barriers.Goals as goal

pub returns : goal.returns
returns c = λ graph past run holds. report_bounds graph past run holds.bounding
