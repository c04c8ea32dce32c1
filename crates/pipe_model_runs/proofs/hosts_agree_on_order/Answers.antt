use Rattle.pipe_model.specs.Acting.{own}
use Rattle.pipe_model.specs.Logged.{log}
use Rattle.pipe_model.proofs.Own.{node_history}
use Rattle.pipe_model_node.proofs.Ordered.{node_ordered}
use Rattle.pipe_model_runs.proofs.Agreed.{same_order}
use Rattle.pipe_model_runs.proofs.hosts_agree_on_order.Goals as goal

pub returns : goal.returns
returns c = λ graph past run service one other a b one_in other_in.
    same_order a b (log service (own graph one past)) (log service (own graph other past))
    (node_ordered service graph one (own graph one past) (node_history graph one past run))
    (node_ordered service graph other (own graph other past) (node_history graph other past run))
