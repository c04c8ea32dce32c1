use Rattle.pipe_model_runs.proofs.OneRun.{run_exists, run_only}
use Rattle.pipe_model_runs.proofs.there_is_one_run.Goals as goal

pub returns : goal.returns
returns c = record { exists = run_exists; only = run_only }
