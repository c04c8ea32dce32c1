-- What the graph of a topology has: hosts that reach each other, and a link into each node.
use Rattle.std.specs.Prelude.{ℕ, ◌<◌, length}
use Rattle.pipe_graph.specs.Graph.{Graph, ins_of}
use Rattle.pipe_graph.specs.Reach.{JoinsAllHosts}

-- each node has an in-link
abbrev pub HasIns : Graph → Type 0
HasIns graph = (node : ℕ) → node < graph.nodes → 0 < length (ins_of graph node)

-- there is a host, any two hosts reach each other, and each node has an in-link
pub record IsFed (graph : Graph) : Type 0 where
  pub some : 0 < graph.hosts
  pub joined : JoinsAllHosts graph
  pub ins : HasIns graph
