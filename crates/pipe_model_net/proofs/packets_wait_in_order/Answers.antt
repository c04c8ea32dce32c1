use Rattle.pipe_model_net.proofs.PutInOrder.{waits_in_order}
use Rattle.pipe_model_net.proofs.packets_wait_in_order.Goals as goal

pub returns : goal.returns
returns c = waits_in_order
