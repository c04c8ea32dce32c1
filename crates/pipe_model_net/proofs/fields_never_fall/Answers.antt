use Rattle.pipe_model_net.proofs.PutInOrder.{node_never_falls}
use Rattle.pipe_model_net.proofs.fields_never_fall.Goals as goal

pub returns : goal.returns
returns c = node_never_falls
