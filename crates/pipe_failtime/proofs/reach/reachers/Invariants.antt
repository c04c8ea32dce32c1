use Rattle.std.proofs.Common.{ℕ}
use Rattle.pipe_graph.specs.Reach.{reaches}
use Rattle.pipe_topo.specs.Sets.{has}
use Rattle.pipe_failtime.specs.Filled.{IsFilled}
use Rattle.pipe_failtime.proofs.reach.reachers.Given as goal

abbrev pub invariant-loop-host : goal.invariant-loop-host
invariant-loop-host l = IsFilled l.reachers 64 (λ (host : ℕ). reaches l.topology (has l.by) host l.fn.node.0) l.host
