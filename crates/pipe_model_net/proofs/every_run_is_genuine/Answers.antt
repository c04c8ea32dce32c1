use Rattle.pipe_model_net.proofs.Genuine.{run_genuine}
use Rattle.pipe_model_net.proofs.every_run_is_genuine.Goals as goal

pub returns : goal.returns
returns c = run_genuine
