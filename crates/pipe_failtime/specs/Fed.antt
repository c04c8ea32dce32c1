-- Which nodes a kept host feeds, and so all links out of them.
use Rattle.std.specs.Prelude.{ℕ, ◌==◌, ◌&&◌, ◌||◌, Bool}
use Rattle.pipe_graph.specs.Below.{any_below}
use Rattle.pipe_graph.specs.Graph.{Graph, is_half}
use Rattle.pipe_graph.specs.Reach.{reaches}

-- a kept host is the node, or reaches it by the set, and it is a half
abbrev pub is_fed_from : Graph → (ℕ → Bool) → (ℕ → Bool) → ℕ → Bool
is_fed_from graph by kept node = any_below (λ host. kept host
    && ((host == node) || (is_half graph node && reaches graph by host node))) graph.hosts
