use Rattle.pipe_model.proofs.Window.{unsettled_few}
use Rattle.pipe_model_node.proofs.windows_hold.Goals as goal

pub returns : goal.returns
returns c = unsettled_few
