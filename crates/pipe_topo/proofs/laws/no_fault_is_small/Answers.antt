use Rattle.pipe_topo.proofs.FaultLaws.{no_fault_small}
use Rattle.pipe_topo.proofs.laws.no_fault_is_small.Goals as goal

pub returns : goal.returns
returns c = no_fault_small
