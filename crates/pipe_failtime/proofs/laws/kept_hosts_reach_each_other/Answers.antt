use Rattle.pipe_failtime.proofs.RoundLaws.{kept_reach}
use Rattle.pipe_failtime.proofs.laws.kept_hosts_reach_each_other.Goals as goal

pub returns : goal.returns
returns c = kept_reach
