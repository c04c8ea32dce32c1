use Rattle.std.proofs.Common.{◌≡◌, ℕ, ◌&&◌, false, not}
use Rattle.pipe_graph.specs.Below.{any_below}
use Rattle.pipe_topo.specs.Sets.{has}
use Rattle.pipe_graph.specs.Doomed.{are_partners}
use Rattle.pipe_failtime.proofs.first.lacks_partner.Given as goal

abbrev pub invariant-loop-other : goal.invariant-loop-other
invariant-loop-other l = any_below (λ (b : ℕ). has l.left b && not (are_partners l.reach.graph (has l.reach.by) l.host b)) l.other ≡ false
