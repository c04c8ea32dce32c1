use Rattle.pipe_model_node.proofs.Causal.{node_causal}
use Rattle.pipe_model_node.proofs.Ordered.{node_ordered}
use Rattle.pipe_host.proofs.laws.logs_of_any_calls_are_ordered.Goals as goal

pub returns : goal.returns
returns c = record {
  ordered = λ graph node own host stands service. node_ordered service graph node own stands.links_are.history;
  causal = λ graph node own host stands. node_causal graph node own stands.links_are.history;
}
