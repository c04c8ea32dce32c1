use Rattle.pipe_model_net.proofs.Promised.{fields_promised}
use Rattle.pipe_model_net.proofs.fields_are_promised.Goals as goal

pub returns : goal.returns
returns c = fields_promised
