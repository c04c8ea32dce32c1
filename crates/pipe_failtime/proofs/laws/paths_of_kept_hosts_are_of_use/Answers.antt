use Rattle.pipe_failtime.proofs.UselessLaws.{kept_paths}
use Rattle.pipe_failtime.proofs.laws.paths_of_kept_hosts_are_of_use.Goals as goal

pub returns : goal.returns
returns c = kept_paths
