use Rattle.pipe_model.proofs.Stamps.{stamps_accepted}
use Rattle.pipe_model_node.proofs.stamps_are_accepted.Goals as goal

pub returns : goal.returns
returns c = stamps_accepted
