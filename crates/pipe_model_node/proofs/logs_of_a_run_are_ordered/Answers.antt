use Rattle.pipe_model.specs.Acting.{own}
use Rattle.pipe_model.proofs.Own.{node_history}
use Rattle.pipe_model_node.proofs.Ordered.{node_ordered}
use Rattle.pipe_model_node.proofs.logs_of_a_run_are_ordered.Goals as goal

pub returns : goal.returns
returns c = λ graph past run host known service. node_ordered service graph host (own graph host past) (node_history graph host past run)
