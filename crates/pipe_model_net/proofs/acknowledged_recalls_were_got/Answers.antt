use Rattle.pipe_model_net.proofs.RecallAcks.{recall_acked_back}
use Rattle.pipe_model_net.proofs.acknowledged_recalls_were_got.Goals as goal

pub returns : goal.returns
returns c = recall_acked_back
