use Rattle.std.proofs.Common.{length}
use Rattle.pipe_topo.specs.Reports.{report_of}
use Rattle.pipe_topo.specs.Sets.{has}
use Rattle.pipe_failtime.specs.Filled.{IsFilled}
use Rattle.pipe_graph.specs.Reported.{unreported}
use Rattle.pipe_failtime.proofs.reported.unreported.Given as goal

abbrev pub invariant-loop-link : goal.invariant-loop-link
invariant-loop-link l = IsFilled l.set (length l.topology.links) (unreported (has l.live) (report_of l.reports)) l.link
