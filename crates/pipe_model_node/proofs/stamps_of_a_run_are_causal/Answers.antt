use Rattle.pipe_model.specs.Acting.{own}
use Rattle.pipe_model.proofs.Own.{node_history}
use Rattle.pipe_model_node.proofs.Causal.{node_causal}
use Rattle.pipe_model_node.proofs.stamps_of_a_run_are_causal.Goals as goal

pub returns : goal.returns
returns c = λ graph past run host known. node_causal graph host (own graph host past) (node_history graph host past run)
