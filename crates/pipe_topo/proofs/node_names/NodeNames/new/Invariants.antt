use Rattle.std.proofs.Common.{◌≡◌, take}
use Rattle.pipe_topo.specs.NodeNames.{node_names}
use Rattle.pipe_topo.proofs.node_names.NodeNames.new.Given as goal

abbrev pub invariant-loop-at : goal.invariant-loop-at
invariant-loop-at l = l.nodes ≡ node_names l.hosts (take l.at l.names)
