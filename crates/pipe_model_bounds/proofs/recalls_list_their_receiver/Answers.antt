use Rattle.pipe_model_bounds.proofs.Listed.{recalls_listed}
use Rattle.pipe_model_bounds.proofs.recalls_list_their_receiver.Goals as goal

pub returns : goal.returns
returns c = recalls_listed
