use Rattle.pipe_topo.specs.Sets.{has}
use Rattle.pipe_failtime.specs.Fed.{is_fed_from}
use Rattle.pipe_failtime.specs.Filled.{IsFilled}
use Rattle.pipe_failtime.proofs.links.fed_nodes.Given as goal

abbrev pub invariant-loop-node : goal.invariant-loop-node
invariant-loop-node l = IsFilled l.fed.items l.topology.nodes (is_fed_from l.topology (has l.by) (has l.kept)) l.node
