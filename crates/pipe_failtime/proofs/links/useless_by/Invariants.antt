use Rattle.std.proofs.Common.{length}
use Rattle.pipe_topo.specs.Sets.{has}
use Rattle.pipe_failtime.specs.Filled.{IsFilled}
use Rattle.pipe_graph.specs.Useless.{is_useless}
use Rattle.pipe_failtime.proofs.links.useless_by.Given as goal

abbrev pub invariant-loop-link : goal.invariant-loop-link
invariant-loop-link l = IsFilled l.set (length l.topology.links) (is_useless l.topology (has l.by) (has l.kept)) l.link
