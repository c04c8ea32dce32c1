use Rattle.std.proofs.Common.{◌≡◌}
use Rattle.pipe_topo.specs.Reports.{report_of}
use Rattle.pipe_topo.specs.Sets.{has}
use Rattle.pipe_graph.specs.FailureTime.{fed_report, latest_below}
use Rattle.pipe_failtime.proofs.time.failure_time.Given as goal

abbrev pub invariant-loop-link : goal.invariant-loop-link
invariant-loop-link l = l.time ≡ latest_below (fed_report l.topology (has l.live) (report_of l.reports) l.host.0) l.link
