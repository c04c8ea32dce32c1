use Rattle.std.proofs.Common.{◌≡◌, ℕ, ◌==◌, ◌&&◌, ◌||◌, false}
use Rattle.pipe_graph.specs.Below.{any_below}
use Rattle.pipe_graph.specs.Graph.{is_half}
use Rattle.pipe_graph.specs.Reach.{reaches}
use Rattle.pipe_topo.specs.Sets.{has}
use Rattle.pipe_failtime.proofs.links.is_fed_from.Given as goal

abbrev pub invariant-loop-host : goal.invariant-loop-host
invariant-loop-host l =
    any_below (λ (h : ℕ). has l.kept h && ((h == l.fn.node.0) || (is_half l.topology l.fn.node.0 && reaches l.topology (has l.by) h l.fn.node.0))) l.host ≡ false
