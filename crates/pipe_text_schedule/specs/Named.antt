-- The hosts, nodes and links that words name. The names are those of the nodes in their order, the hosts first.
use Rattle.std.specs.Prelude.{ℕ, nat_lt, if◌then◌else◌, List, length, Option, Some, None, position, bytes_eq}
use Rattle.pipe_graph.specs.Graph.{Graph}
use Rattle.pipe_text.specs.Number.{number_of}

-- a number below a bound
abbrev pub below : ℕ → Option ℕ → Option ℕ
below bound None = None
below bound (Some n) = if nat_lt n bound then Some n else None

-- the host of this name
abbrev pub host_in : Graph → List (List ℕ) → List ℕ → Option ℕ
host_in graph names word = below graph.hosts (position (bytes_eq word) names)

-- the node of this name: a host, or a half of a switch
abbrev pub node_in : Graph → List (List ℕ) → List ℕ → Option ℕ
node_in graph names word = below graph.nodes (position (bytes_eq word) names)

-- the link of this number
abbrev pub link_in : Graph → List ℕ → Option ℕ
link_in graph word = below (length graph.links) (number_of 65535 word)
