use Rattle.pipe_model_atomic.proofs.AllOrNone.{all_or_none}
use Rattle.pipe_model_atomic.proofs.every_run_is_all_or_none.Goals as goal

pub returns : goal.returns
returns c = all_or_none
