use Rattle.pipe_model_net.proofs.RecallAcks.{recall_acks_true}
use Rattle.pipe_model_net.proofs.recall_acknowledgements_are_true.Goals as goal

pub returns : goal.returns
returns c = recall_acks_true
