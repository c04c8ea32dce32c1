use Rattle.pipe_graph.specs.Graph.{ins_of}
use Rattle.pipe_model.specs.Moments.{moments_of, quiet_calls}
use Rattle.pipe_links.proofs.links.Links.barriers_with.Goals as goal

pub returns : goal.returns
returns c = λ graph node own stands. c.barriers_with.ensures (ins_of graph node) graph.patience (moments_of graph node own) (quiet_calls graph node own) stands.ins_are
