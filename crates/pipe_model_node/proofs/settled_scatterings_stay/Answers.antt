use Rattle.pipe_model.proofs.Promises.{settled_still}
use Rattle.pipe_model_node.proofs.settled_scatterings_stay.Goals as goal

pub returns : goal.returns
returns c = settled_still
