-- The ways of a node: by the links that it does not know as dropped.
use Rattle.std.specs.Prelude.{◌≡◌, ℕ, ◌<◌, ◌==◌, Bool, List, length, filter}
use Rattle.std.specs.List.{list_any}
use Rattle.pipe_base.specs.declared.name.LinkId.{LinkId}
use Rattle.pipe_graph.specs.Graph.{Graph, outs_of}
use Rattle.pipe_graph.specs.Passable.{is_passable}
use Rattle.pipe_route.specs.Routing.{routing_by}
use Rattle.pipe_topo.specs.Sets.{has}
use Rattle.pipe_links.specs.declared.ways.Ways.{Ways}
use Rattle.pipe_base.specs.Moment.{has_link}

-- the links out of a node on which it may put packets
abbrev pub outs_left : Graph → ℕ → List LinkId → List LinkId
outs_left graph node known = filter (λ l. is_passable graph known l.0) (outs_of graph node)

-- These are the ways of a node that knows these links as dropped.
pub record AreWays (graph : Graph) (node : ℕ) (known : List LinkId) (w : Ways) : Type 0 where
  pub known_are : w.known ≡ known
  pub outs_are : w.outs ≡ outs_left graph node known
  pub routes_are : w.routes ≡ routing_by graph (is_passable graph known) node

-- of the links below this number, the set has those among the entries
pub record IsSetOf (links : ℕ) (entries : List LinkId) (set : List Bool) : Type 0 where
  pub size : length set ≡ links
  pub has_is : (link : ℕ) → link < links → has set link ≡ has_link link entries
