use Rattle.pipe_model.specs.Acting.{own}
use Rattle.pipe_model.proofs.Own.{node_history}
use Rattle.pipe_model_runs.proofs.StampsRise as rising
use Rattle.pipe_model_runs.proofs.stamps_rise.Goals as goal

pub returns : goal.returns
returns c = record {
  node = rising.stamps_rise;
  run = λ graph past run node. rising.stamps_rise graph node (own graph node past) (node_history graph node past run);
}
