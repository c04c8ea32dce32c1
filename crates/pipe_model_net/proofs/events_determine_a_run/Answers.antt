use Rattle.pipe_model_net.proofs.Determined.{run_same}
use Rattle.pipe_model_net.proofs.events_determine_a_run.Goals as goal

pub returns : goal.returns
returns c = run_same
