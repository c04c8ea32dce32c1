use Rattle.pipe_failtime.proofs.CutLaws.{cut_by_paths, paths_cut}
use Rattle.pipe_failtime.proofs.laws.cut_hosts_have_reported_paths.Goals as goal

pub returns : goal.returns
returns c = λ g live reports kept host graph. (cut_by_paths g live reports kept host graph, paths_cut g live reports kept host)
