use Rattle.pipe_topo.proofs.DigitLaws.{no_digits}
use Rattle.pipe_topo.proofs.hosts.HostSet.none.Goals as goal

pub returns : goal.returns
returns c = no_digits 64
