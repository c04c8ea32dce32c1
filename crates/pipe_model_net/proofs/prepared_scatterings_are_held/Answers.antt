use Rattle.pipe_model_net.proofs.Prepared.{prepared_held}
use Rattle.pipe_model_net.proofs.prepared_scatterings_are_held.Goals as goal

pub returns : goal.returns
returns c = prepared_held
