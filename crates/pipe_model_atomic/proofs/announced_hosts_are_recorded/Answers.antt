use Rattle.pipe_model_atomic.proofs.Recorded.{announced_recorded}
use Rattle.pipe_model_atomic.proofs.announced_hosts_are_recorded.Goals as goal

pub returns : goal.returns
returns c = announced_recorded
