use Rattle.pipe_model_net.proofs.TakenBack.{recalls_true}
use Rattle.pipe_model_net.proofs.recalls_are_true.Goals as goal

pub returns : goal.returns
returns c = recalls_true
