use Rattle.pipe_model_node.proofs.Ordered.{node_ordered}
use Rattle.pipe_model_node.proofs.logs_of_a_node_rise.Goals as goal

pub returns : goal.returns
returns c = λ graph node own history service. node_ordered service graph node own history
