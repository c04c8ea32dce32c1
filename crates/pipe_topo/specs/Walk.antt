-- How many links lead on to a node from each node, as a table, and the table while it is made.
use Rattle.std.specs.Prelude.{◌≡◌, ◌⊎◌, ℕ, ◌+◌, ◌<◌, ◌≤◌, nat_lt, ◌&&◌, Bool, true, List, [], ◌∷◌, ◌++◌, length, slice_index_or, slice_set, All, Contains, MatchBool}
use Rattle.pipe_base.specs.declared.name.NodeId.{NodeId}
use Rattle.pipe_graph.specs.Graph.{Graph, tail_of, head_of, is_half}
use Rattle.pipe_graph.specs.Path.{Leads}

-- the entry of a node from which no links lead on
abbrev pub far : ℕ
far = 65535

-- the entry of a node
abbrev pub away_of : List ℕ → ℕ → ℕ
away_of away node = slice_index_or away node far

-- an entry that is not far is the number of links of a way on to the node, and no way has fewer links than the entry says
pub record IsDistances (graph : Graph) (by : ℕ → Bool) (to : ℕ) (away : List ℕ) : Type 0 where
  pub size : length away ≡ graph.nodes
  pub found : (node : ℕ) → away_of away node < far → (ls : List ℕ) × Leads graph by node to ls
      × (length ls ≡ away_of away node)
  pub least : (node : ℕ) (ls : List ℕ) → Leads graph by node to ls → away_of away node ≤ length ls

-- a number as the name of a node
abbrev pub node_id : ℕ → NodeId
node_id n = record { 0 = n }

-- While the table is made: what was found has a way, and a link whose head does not wait in the queue brings its tail no nearer.
pub record IsWalk (graph : Graph) (by : ℕ → Bool) (to : ℕ) (away : List ℕ) (queue : List NodeId) : Type 0 where
  pub size : length away ≡ graph.nodes
  pub bound : (node : ℕ) → away_of away node ≤ far
  pub start : away_of away to ≡ 0
  pub found : (node : ℕ) → away_of away node < far → (ls : List ℕ) × Leads graph by node to ls
      × (length ls ≡ away_of away node)
  pub known : All (λ n. n.0 < graph.nodes) queue
  pub relaxed : (link : ℕ) → link < length graph.links → by link ≡ true → is_half graph (tail_of graph link) ≡ true
      → Contains queue (node_id (head_of graph link)) ⊎ (away_of away (tail_of graph link) ≤ away_of away (head_of graph link) + 1)

-- the link is of the set, begins at a half, and brings it nearer
abbrev pub comes_nearer : Graph → (ℕ → Bool) → List ℕ → ℕ → ℕ → Bool
comes_nearer graph by away link next = (by link && is_half graph (tail_of graph link))
    && nat_lt next (away_of away (tail_of graph link))

-- the tail of a link that comes nearer gets the entry, and waits in the queue
abbrev pub LooksAlong : Graph → (ℕ → Bool) → ℕ → ℕ → List ℕ → List NodeId → List ℕ → List NodeId → Type 0
LooksAlong graph by link next away queue new_away new_queue =
    MatchBool (comes_nearer graph by away link next)
    ((new_away ≡ slice_set away (tail_of graph link) next) × (new_queue ≡ queue ++ node_id (tail_of graph link) ∷ []))
    ((new_away ≡ away) × (new_queue ≡ queue))

-- the link is of the set, and leads to a node that is not far
abbrev pub leads_near : Graph → (ℕ → Bool) → List ℕ → ℕ → Bool
leads_near graph by away link = by link && nat_lt (away_of away (head_of graph link)) far
