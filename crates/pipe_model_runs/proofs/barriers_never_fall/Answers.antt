use Rattle.pipe_model_runs.proofs.Barriers.{never_falls, never_falls_in_run}
use Rattle.pipe_model_runs.proofs.barriers_never_fall.Goals as goal

pub returns : goal.returns
returns c = record { node = never_falls; run = never_falls_in_run }
