use Rattle.pipe_model_node.proofs.Causal.{node_causal}
use Rattle.pipe_model_node.proofs.stamps_of_a_node_are_causal.Goals as goal

pub returns : goal.returns
returns c = node_causal
