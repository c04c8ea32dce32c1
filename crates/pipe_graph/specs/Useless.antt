-- Links that no kept host can use.
use Rattle.std.specs.Prelude.{◌≡◌, ℕ, ◌<◌, Bool, true, false, ◌&&◌, not}
use Rattle.pipe_graph.specs.Below.{any_below}
use Rattle.pipe_graph.specs.Graph.{Graph}
use Rattle.pipe_graph.specs.Reach.{feeds}

-- a kept host feeds the link by the set
abbrev pub is_fed : Graph → (ℕ → Bool) → (ℕ → Bool) → ℕ → Bool
is_fed graph by kept link = any_below (λ host. kept host && feeds graph by host link) graph.hosts

-- the link is of the set, and no kept host feeds it by the set
abbrev pub is_useless : Graph → (ℕ → Bool) → (ℕ → Bool) → ℕ → Bool
is_useless graph by kept link = by link && not (is_fed graph by kept link)

-- the same in words
pub record IsUseless (graph : Graph) (by kept : ℕ → Bool) (link : ℕ) : Type 0 where
  pub used : by link ≡ true
  pub unfed : (host : ℕ) → host < graph.hosts → kept host ≡ true → feeds graph by host link ≡ false
