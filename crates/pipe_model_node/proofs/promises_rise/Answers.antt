use Rattle.pipe_model.proofs.Promises.{promise_bounds, promise_rises, promise_within}
use Rattle.pipe_model_node.proofs.promises_rise.Goals as goal

pub returns : goal.returns
returns c = record {
  rises = λ graph node own r history. promise_rises graph node own r history.1;
  within = promise_within;
  bounds = promise_bounds;
}
