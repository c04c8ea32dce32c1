use Rattle.pipe_graph.specs.Graph.{ins_of}
use Rattle.pipe_base.proofs.BarrierLaws.{barrier-le_register}
use Rattle.pipe_model.specs.Moments.{moments_of}
use Rattle.pipe_model_node.proofs.use_bounds_barrier.Goals as goal

pub returns : goal.returns
returns c = λ plane graph node own link among used. barrier-le_register plane (ins_of graph node) (moments_of graph node own) link among used
