use Rattle.pipe_model_net.proofs.Acks.{acks_true}
use Rattle.pipe_model_net.proofs.acknowledgements_are_true.Goals as goal

pub returns : goal.returns
returns c = acks_true
