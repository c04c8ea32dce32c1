-- What a node that knows a list of drops may do with a link.
use Rattle.std.specs.Prelude.{ℕ, not, Bool, List}
use Rattle.pipe_base.specs.declared.name.LinkId.{LinkId}
use Rattle.pipe_base.specs.Moment.{has_link}
use Rattle.pipe_graph.specs.Graph.{Graph}

-- as far as the node knows, the link is not dropped
abbrev pub not_dropped : List LinkId → ℕ → Bool
not_dropped known link = not (has_link link known)

-- the node may put packets on the link: beacons, and what has its way over it
abbrev pub is_passable : Graph → List LinkId → ℕ → Bool
is_passable graph known link = not_dropped known link
