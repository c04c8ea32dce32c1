use Rattle.pipe_model_atomic.proofs.OrderedRun.{ordered_run}
use Rattle.pipe_model_atomic.proofs.every_run_keeps_its_promises.Goals as goal

pub returns : goal.returns
returns c = ordered_run
