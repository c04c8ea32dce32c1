use Rattle.std.proofs.Common.{◌≡◌, ℕ, ◌&&◌, false}
use Rattle.pipe_graph.specs.Below.{any_below}
use Rattle.pipe_graph.specs.Reach.{reaches}
use Rattle.pipe_topo.specs.Sets.{has}
use Rattle.pipe_failtime.proofs.cut.reaches_some.Given as goal

abbrev pub invariant-loop-end : goal.invariant-loop-end
invariant-loop-end l = any_below (λ (k : ℕ). has l.kept k && reaches l.topology (has l.by) l.host.0 k) l.end ≡ false
