-- Paths: lists of links, each beginning where the one before ends. A set of links is a test on their numbers.
use Rattle.std.specs.Prelude.{◌≡◌, ℕ, ◌<◌, Bool, true, List, [], ◌∷◌, length}
use Rattle.pipe_graph.specs.Graph.{Graph, tail_of, head_of, is_half}

-- the set of all links
abbrev pub every_link : ℕ → Bool
every_link link = true

-- a link of the set that begins at the node
pub record LeavesBy (graph : Graph) (by : ℕ → Bool) (node link : ℕ) : Type 0 where
  pub known : link < length graph.links
  pub used : by link ≡ true
  pub begins : tail_of graph link ≡ node

-- from the node the links, if any, lead on to the end: each begins at a half, where the one before ends
abbrev pub Leads : Graph → (ℕ → Bool) → ℕ → ℕ → List ℕ → Type 0
Leads graph by node end [] = node ≡ end
Leads graph by node end (l ∷ ls) = (is_half graph node ≡ true) × LeavesBy graph by node l
    × Leads graph by (head_of graph l) end ls

-- a path by the set from one node to another: one or more links, whose inner nodes are halves
abbrev pub IsPath : Graph → (ℕ → Bool) → ℕ → ℕ → List ℕ → Type 0
IsPath graph by start end [] = ⊥
IsPath graph by start end (l ∷ ls) = LeavesBy graph by start l × Leads graph by (head_of graph l) end ls
