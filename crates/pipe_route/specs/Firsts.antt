-- The links out of a node that lead to the nodes nearest to a receiver, by a table of distances.
use Rattle.std.specs.Prelude.{◌≡◌, ◌⊎◌, ℕ, ◌<◌, ◌≤◌, ◌==◌, nat_lt, ◌&&◌, min, if◌then◌else◌, Bool, true, List, length, All}
use Rattle.pipe_base.specs.declared.name.LinkId.{LinkId}
use Rattle.pipe_graph.specs.Graph.{Graph, tail_of, head_of}
use Rattle.pipe_topo.specs.Walk.{far, away_of}

-- the lesser of a distance and that of a link's head, where the link is of the set
abbrev pub nearer_of : Graph → (ℕ → Bool) → List ℕ → ℕ → ℕ → ℕ
nearer_of graph by away nearest link = if by link then min nearest (away_of away (head_of graph link)) else nearest

-- a link of the set out of the node whose head has this distance
pub record IsNearest (graph : Graph) (by : ℕ → Bool) (away : List ℕ) (node nearest link : ℕ) : Type 0 where
  pub known : link < length graph.links
  pub begins : tail_of graph link ≡ node
  pub used : by link ≡ true
  pub away_is : away_of away (head_of graph link) ≡ nearest

-- the least distance of the heads of these links, as far as they are of the set, or far
pub record IsLeast (graph : Graph) (by : ℕ
    → Bool) (away : List ℕ) (node : ℕ) (links : List LinkId) (nearest : ℕ) : Type 0 where
  pub least : All (λ l. by l.0 ≡ true → nearest ≤ away_of away (head_of graph l.0)) links
  pub reached : (nearest ≡ far) ⊎ ((link : ℕ) × IsNearest graph by away node nearest link)

-- the link is of the set, and its head has the least distance, which is not far
abbrev pub is_first : Graph → (ℕ → Bool) → List ℕ → ℕ → ℕ → Bool
is_first graph by away nearest link = (by link && (away_of away (head_of graph link) == nearest)) && nat_lt nearest far
