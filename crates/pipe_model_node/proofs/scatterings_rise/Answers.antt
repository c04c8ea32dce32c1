use Rattle.pipe_model.proofs.Promises.{begun_below_next, begun_rise}
use Rattle.pipe_model_node.proofs.scatterings_rise.Goals as goal

pub returns : goal.returns
returns c = record { rise = begun_rise; below = begun_below_next }
