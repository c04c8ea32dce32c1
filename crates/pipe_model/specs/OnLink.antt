-- What is put on a link, waits there and is received on it, and what bounds its fields in each plane.
use Rattle.std.specs.Prelude.{◌≡◌, ◌⊎◌, ℕ, ◌≤◌, List, [], ◌∷◌, ◌++◌, All}
use Rattle.pipe_base.specs.declared.packet.Packet.{Packet}
use Rattle.pipe_base.specs.declared.packet.Plane.{Plane}
use Rattle.pipe_base.specs.Barrier.{field_of, register}
use Rattle.pipe_graph.specs.Graph.{Graph, head_of, tail_of}
use Rattle.pipe_model.specs.declared.record.Record.{Record}
use Rattle.pipe_model.specs.Acting.{own}
use Rattle.pipe_model.specs.Moments.{moments_of}
use Rattle.pipe_model.specs.NodePromise.{node_promise}
use Rattle.pipe_model.specs.Waiting.{put_on, waiting_on}

-- the barrier of a plane that a packet carries
abbrev pub field : Plane → Packet → ℕ
field plane p = field_of plane p.be.0 p.commit.0

-- what the tail of a link promises
abbrev pub tail_promise : Plane → Graph → ℕ → List Record → ℕ
tail_promise plane graph link past = node_promise plane graph (tail_of graph link) (own graph (tail_of graph link) past)

-- the greatest field that was received on a link, or 0
abbrev pub greatest_received : Plane → Graph → ℕ → List Record → ℕ
greatest_received plane graph link past =
    register plane (moments_of graph (head_of graph link) (own graph (head_of graph link) past)) link

-- each field that waits on the link or was received on it is at most what its tail promises now
pub record AreFieldsPromised (plane : Plane) (graph : Graph) (link : ℕ) (past : List Record) : Type 0 where
  pub waiting : All (λ p. field plane p ≤ tail_promise plane graph link past) (waiting_on link past)
  pub received : greatest_received plane graph link past ≤ tail_promise plane graph link past

-- all that a node put on a link by its own records, in order
abbrev pub put_along : ℕ → List Record → List Packet
put_along link [] = []
put_along link (r ∷ own) = put_along link own ++ put_on link r.step.put

-- no field is below one before it
abbrev pub NeverFalls : Plane → List Packet → Type 0
NeverFalls plane [] = Unit {0}
NeverFalls plane (p ∷ ps) = All (λ q. field plane p ≤ field plane q) ps × NeverFalls plane ps

-- the packets are some of the others, in the same order: the first of those is left out, or is the first of these
abbrev pub AreSomeOf : List Packet → List Packet → Type 0
AreSomeOf ps [] = ps ≡ []
AreSomeOf ps (q ∷ qs) = AreSomeOf ps qs ⊎ ((rest : List Packet) × ((ps ≡ q ∷ rest) × AreSomeOf rest qs))
