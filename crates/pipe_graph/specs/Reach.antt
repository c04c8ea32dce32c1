-- Which node reaches which by a set of links, as a test: there is a path.
use Rattle.std.specs.Prelude.{◌≡◌, ℕ, zero, suc, ◌<◌, ◌==◌, ◌&&◌, ◌||◌, Bool, true, length}
use Rattle.pipe_graph.specs.Below.{any_below}
use Rattle.pipe_graph.specs.Graph.{Graph, tail_of, head_of, is_half}
use Rattle.pipe_graph.specs.Path.{every_link}

-- some link of the set leads from the node to one that passes the test
abbrev pub goes_on : Graph → (ℕ → Bool) → ℕ → (ℕ → Bool) → Bool
goes_on graph by node passes = any_below (λ l. (by l && (tail_of graph l == node))
    && passes (head_of graph l)) (length graph.links)

-- at most so many links of the set lead on from the node to the end, through halves alone
abbrev pub leads_within : Graph → (ℕ → Bool) → ℕ → ℕ → ℕ → Bool
leads_within graph by end zero node = node == end
leads_within graph by end (suc count) node = (node == end) || (is_half graph node
    && goes_on graph by node (leads_within graph by end count))

-- one node reaches another by the set: a path needs no more links than one, and one from each node
abbrev pub reaches : Graph → (ℕ → Bool) → ℕ → ℕ → Bool
reaches graph by start end = goes_on graph by start (leads_within graph by end graph.nodes)

-- a host feeds a link by the set: it is the link's tail, or reaches the tail, and that is a half
abbrev pub feeds : Graph → (ℕ → Bool) → ℕ → ℕ → Bool
feeds graph by host link = (host == tail_of graph link) || (is_half graph (tail_of graph link)
    && reaches graph by host (tail_of graph link))

-- by all links any two hosts reach each other, and each host itself
abbrev pub JoinsAllHosts : Graph → Type 0
JoinsAllHosts graph = (a b : ℕ) → a < graph.hosts → b < graph.hosts → reaches graph every_link a b ≡ true
