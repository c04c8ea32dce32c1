use Rattle.pipe_model_atomic.proofs.Bounds.{unsettled_above}
use Rattle.pipe_model_atomic.proofs.unsettled_scatterings_hold_back.Goals as goal

pub returns : goal.returns
returns c = λ graph past holds. unsettled_above graph past holds.bounding
