use Rattle.pipe_topo.proofs.StarLaws.{star_no_fault}
use Rattle.pipe_topo.proofs.laws.stars_have_no_fault.Goals as goal

pub returns : goal.returns
returns c = star_no_fault
