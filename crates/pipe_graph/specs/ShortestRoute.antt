-- The way of a packet in any network: one of the links that begin a shortest path to the receiver.
use Rattle.std.specs.Prelude.{ℕ, zero, suc, ◌+◌, ◌≤◌, ◌&&◌, not, if◌then◌else◌, Bool, false, List, ◌∷◌, length, map, filter, Option, None}
use Rattle.std.specs.List.{range_with_len}
use Rattle.pipe_base.specs.declared.name.LinkId.{LinkId}
use Rattle.pipe_base.specs.Ways.{in_turn}
use Rattle.pipe_graph.specs.Below.{any_below}
use Rattle.pipe_graph.specs.Graph.{Graph, head_of, is_host, outs_of}
use Rattle.pipe_graph.specs.Passable.{is_passable}
use Rattle.pipe_graph.specs.Path.{IsPath}
use Rattle.pipe_graph.specs.Reach.{goes_on, leads_within}

-- the link begins a path by the set, and no path from the node to the receiver is shorter
pub record BeginsShortest (graph : Graph) (by : ℕ → Bool) (node dst link : ℕ) : Type 0 where
  pub rest : List ℕ
  pub path : IsPath graph by node dst (link ∷ rest)
  pub least : (other : List ℕ) → IsPath graph by node dst other → length (link ∷ rest) ≤ length other

-- a path of at most so many links leads from the node to the receiver
abbrev pub comes_within : Graph → (ℕ → Bool) → ℕ → ℕ → ℕ → Bool
comes_within graph by dst node zero = false
comes_within graph by dst node (suc count) = goes_on graph by node (leads_within graph by dst count)

-- The same as a test, for a link that begins at the node: so many links lead on from its head, and no path from the node has as few.
abbrev pub begins_shortest : Graph → (ℕ → Bool) → ℕ → ℕ → ℕ → Bool
begins_shortest graph by node dst link =
    by link && any_below (λ count. leads_within graph by dst count (head_of graph link)
    && not (comes_within graph by dst node count)) (suc graph.nodes)

-- the links out of the node that begin a shortest path to the receiver, in rising number
abbrev pub firsts_of : Graph → (ℕ → Bool) → ℕ → ℕ → List LinkId
firsts_of graph by node dst = filter (λ l. begins_shortest graph by node dst l.0) (outs_of graph node)

-- the same for each host as the receiver
abbrev pub firsts_by_host : Graph → (ℕ → Bool) → ℕ → List (List LinkId)
firsts_by_host graph by node = map (λ dst. firsts_of graph by node dst) (range_with_len 0 graph.hosts)

-- the route by a set of links
abbrev pub route_by : Graph → (ℕ → Bool) → ℕ → ℕ → ℕ → Option LinkId
route_by graph by node src dst = if is_host graph dst then in_turn (firsts_of graph by node dst) (src + dst) else None

-- Where node `node`, which knows these drops, puts a packet from `src` to `dst`: none where there is no way.
abbrev pub route : Graph → List LinkId → ℕ → ℕ → ℕ → Option LinkId
route graph known node src dst = route_by graph (is_passable graph known) node src dst
