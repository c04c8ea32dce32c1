use Rattle.pipe_topo.proofs.DigitLaws.{length-digits}
use Rattle.pipe_topo.proofs.hosts.HostSet.copy.Goals as goal

pub returns-clause-size : goal.returns-clause-size
returns-clause-size c = length-digits 64 c.self.inside.bits
