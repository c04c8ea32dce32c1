use Rattle.pipe_topo.proofs.FaultLaws.{no_fault_joins}
use Rattle.pipe_topo.proofs.laws.no_fault_joins_all.Goals as goal

pub returns : goal.returns
returns c = no_fault_joins
