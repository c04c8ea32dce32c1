-- What the routes of a node are seen as.
use Rattle.std.specs.Prelude.{ℕ, Bool, List}
use Rattle.pipe_base.specs.declared.name.LinkId.{LinkId}
use Rattle.pipe_graph.specs.Graph.{Graph}
use Rattle.pipe_graph.specs.ShortestRoute.{firsts_by_host}

-- the node, and for each host the links that a packet to it may take
pub record Routing : Type 0 where
  pub node : ℕ
  pub links : List (List LinkId)

-- the routes by a set of links
abbrev pub routing_by : Graph → (ℕ → Bool) → ℕ → Routing
routing_by graph by node = record { node = node; links = firsts_by_host graph by node }
