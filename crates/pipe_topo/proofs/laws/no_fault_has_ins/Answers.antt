use Rattle.pipe_topo.proofs.FedLaws.{no_fault_fed}
use Rattle.pipe_topo.proofs.laws.no_fault_has_ins.Goals as goal

pub returns-clause-some : goal.returns-clause-some
returns-clause-some c = λ plan is none. (no_fault_fed plan is none).some

pub returns-clause-ins : goal.returns-clause-ins
returns-clause-ins c = λ plan is none. (no_fault_fed plan is none).ins
