use Rattle.pipe_failtime.proofs.RoundLaws.{rounds_keep}
use Rattle.pipe_failtime.proofs.laws.doomed_hosts_stay_doomed.Goals as goal

pub returns : goal.returns
returns c = λ g by members before host is. rounds_keep g by members before g.hosts host is
