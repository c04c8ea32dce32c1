-- Turning a network round: up halves become down halves, and each link has one that goes the other way.
use Rattle.std.specs.Prelude.{◌≡◌, ℕ, ◌+◌, ◌-◌, ◌%◌, ◌<◌, ◌==◌, nat_lt, if◌then◌else◌, length}
use Rattle.pipe_graph.specs.Graph.{Graph, tail_of, head_of}

-- a host stays, the up half of a switch becomes its down half, and the down half its up half
abbrev pub mirror_of : ℕ → ℕ → ℕ
mirror_of hosts node = if nat_lt node hosts then node else (if (node - hosts) % 2 == 0 then node + 1 else node - 1)

-- for each link there is one from the mirror of its head to the mirror of its tail
abbrev pub IsMirrored : Graph → Type 0
IsMirrored graph = (link : ℕ) → link < length graph.links
    → (back : ℕ) × (back < length graph.links) × (tail_of graph back ≡ mirror_of graph.hosts (head_of graph link))
    × (head_of graph back ≡ mirror_of graph.hosts (tail_of graph link))
