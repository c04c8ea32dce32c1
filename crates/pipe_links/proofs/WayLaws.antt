-- The ways of a node by the links that it does not know as dropped.
use Rattle.std.proofs.Common.{◌≡◌, ℕ, ◌<◌, not, Bool, List, [], ◌++◌, length, filter, Option, sym, subst, ap, ◌∙◌, append-nil}
use Rattle.pipe_base.specs.declared.name.LinkId.{LinkId}
use Rattle.pipe_base.specs.declared.packet.Packet.{Packet}
use Rattle.pipe_base.specs.declared.step.Step.{Step}
use Rattle.pipe_graph.specs.Graph.{Graph, outs_of}
use Rattle.pipe_graph.specs.ShortestRoute.{route}
use Rattle.pipe_graph.specs.Passable.{is_passable}
use Rattle.pipe_base.specs.Ways.{picked, with_ways}
use Rattle.pipe_graph.proofs.RouteLaws.{filter_alike, firsts_by_host_alike, outs_all, picked_is_route}
use Rattle.pipe_route.specs.Routing.{Routing, routing_by}
use Rattle.pipe_topo.specs.Sets.{lacks}
use Rattle.pipe_links.specs.declared.ways.Ways.{Ways}
use Rattle.pipe_links.specs.Ways.{AreWays, IsSetOf, outs_left}

-- what the routes answer is the route
pub way_is : (graph : Graph) (node : ℕ) (known : List LinkId) (routes : Routing) → routes ≡ routing_by graph (is_passable graph known) node
    → picked routes.links ≡ route graph known node
way_is graph node known routes is =
    ap (λ (r : Routing). picked r.links) is ∙ (λ i src dst. picked_is_route graph (is_passable graph known) node src dst i)

pub ways_are : (graph : Graph) (node : ℕ) (known : List LinkId) (routes : Routing) (ps : List Packet) (step : Step) → routes ≡ routing_by graph (is_passable graph known) node
    → with_ways (picked routes.links) ps step ≡ with_ways (route graph known node) ps step
ways_are graph node known routes ps step is = ap (λ (way : ℕ → ℕ → Option LinkId). with_ways way ps step) (way_is graph node known routes is)

-- ---- the set of the links that are known as dropped

lacks_known : (graph : Graph) (known : List LinkId) (set : List Bool) → IsSetOf (length graph.links) known set
    → (l : ℕ) → l < length graph.links → lacks set l ≡ is_passable graph known l
lacks_known graph known set is l lt = ap not (is.has_is l lt)

pub routes_left : (graph : Graph) (node : ℕ) (known : List LinkId) (set : List Bool) → IsSetOf (length graph.links) known set
    → routing_by graph (lacks set) node ≡ routing_by graph (is_passable graph known) node
routes_left graph node known set is =
    ap {B = Routing} (λ (ls : List (List LinkId)). record { node = node; links = ls })
    (firsts_by_host_alike graph (lacks set) (is_passable graph known) node (lacks_known graph known set is))

pub outs_kept : (graph : Graph) (node : ℕ) (known : List LinkId) (set : List Bool) → IsSetOf (length graph.links) known set
    → filter (λ l. lacks set l.0) (outs_of graph node) ≡ outs_left graph node known
outs_kept graph node known set is =
    filter_alike (λ (l : LinkId). lacks set l.0) (λ (l : LinkId). is_passable graph known l.0) (outs_of graph node)
    (outs_all graph node (λ (l : LinkId). lacks set l.0 ≡ is_passable graph known l.0) (λ l lt begins. lacks_known graph known set is l lt))

-- ---- more links are known as dropped

-- where none is, the ways stay
pub ways_stay : (graph : Graph) (node : ℕ) (known drops : List LinkId) (w : Ways) → drops ≡ [] → AreWays graph node known w → AreWays graph node (known ++ drops) w
ways_stay graph node known drops w none are =
    subst (λ (ls : List LinkId). AreWays graph node ls w) (sym (ap (λ (ls : List LinkId). known ++ ls) none ∙ append-nil known)) are

-- the ways by all of them
pub ways_grow : (graph : Graph) (me node : ℕ) (before known drops all : List LinkId) (w : Ways) → me ≡ node → all ≡ before ++ drops → before ≡ known
    → AreWays graph me all w → AreWays graph node (known ++ drops) w
ways_grow graph me node before known drops all w same all_are before_are are =
    subst (λ (n : ℕ). AreWays graph n (known ++ drops) w) same
    (subst (λ (ls : List LinkId). AreWays graph me ls w) (all_are ∙ ap (λ (ls : List LinkId). ls ++ drops) before_are) are)
