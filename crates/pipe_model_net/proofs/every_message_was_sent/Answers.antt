use Rattle.pipe_model_net.proofs.Sent.{messages_sent}
use Rattle.pipe_model_net.proofs.every_message_was_sent.Goals as goal

pub returns : goal.returns
returns c = messages_sent
