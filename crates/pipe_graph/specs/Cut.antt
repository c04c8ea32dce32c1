-- Hosts that are cut off from those that are kept.
use Rattle.std.specs.Prelude.{◌≡◌, ℕ, ◌<◌, Bool, true, ◌&&◌, not, List, Option}
use Rattle.std.specs.List.{list_any}
use Rattle.pipe_base.specs.declared.name.Ts.{Ts}
use Rattle.pipe_graph.specs.Below.{any_below}
use Rattle.pipe_graph.specs.Graph.{Graph}
use Rattle.pipe_graph.specs.Path.{IsPath}
use Rattle.pipe_graph.specs.Reach.{reaches}
use Rattle.pipe_graph.specs.Reported.{is_reported}

-- the host reaches no kept host by the set
abbrev pub is_cut : Graph → (ℕ → Bool) → (ℕ → Bool) → ℕ → Bool
is_cut graph by kept host = not (any_below (λ end. kept end && reaches graph by host end) graph.hosts)

-- each path by live links from the host to a kept host has a reported link
abbrev pub IsCut : Graph → (ℕ → Bool) → (ℕ → Option Ts) → (ℕ → Bool) → ℕ → Type 0
IsCut graph live reports kept host =
    (end : ℕ) (path : List ℕ) → end < graph.hosts → kept end ≡ true → IsPath graph live host end path
    → list_any (is_reported reports) path ≡ true
