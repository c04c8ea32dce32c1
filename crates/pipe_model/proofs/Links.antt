-- The links into a node, and those on which it puts packets.
use Rattle.std.proofs.Common.{◌≡◌, ℕ, zero, suc, ◌+◌, ◌<◌, ◌==◌, ◌%◌, if◌then◌else◌, Bool, true, false, List, [], ◌∷◌, length, None, Some, slice_get, refl, sym, ap, ◌∙◌, arith, eq-eqb, eqb-true, subst}
use Rattle.std.specs.List.{All}
use Rattle.std.proofs.lemmas.List.Elements.{All-head, All-tail, All-filter, All-weaker, filter_passes}
use Rattle.std.proofs.lemmas.List.Folds.{list_any_at}
use Rattle.std.proofs.lemmas.List.FromFn.{get_or-map-range_with_len, length-map-range_with_len}
use Rattle.pipe_base.specs.declared.name.LinkId.{LinkId}
use Rattle.pipe_graph.specs.Graph.{Graph, all_links, head_of, ins_of, is_host, link_id, outs_of, tail_of}
use Rattle.pipe_base.specs.Moment.{has_link}
use Rattle.pipe_graph.specs.ShortestRoute.{begins_shortest, firsts_of, route}
use Rattle.pipe_graph.specs.Passable.{is_passable}
use Rattle.pipe_base.specs.Ways.{in_turn}
use Rattle.pipe_base.proofs.BarrierLaws.{filter-among}

-- a link of the network is among those into its head
pub comes_by : (graph : Graph) (node link : ℕ) → link < length graph.links → node ≡ head_of graph link → has_link link (ins_of graph node) ≡ true
comes_by graph node link lt at =
    let all : has_link link (all_links graph) ≡ true =
    list_any_at (λ (l : LinkId). l.0 == link) (all_links graph) link (link_id 0) (omega (arith, length-map-range_with_len link_id 0 (length graph.links)))
    (ap (λ (l : LinkId). l.0 == link) (get_or-map-range_with_len link_id 0 (length graph.links) link link (link_id 0) lt (omega arith)) ∙ eq-eqb link link refl) in
    filter-among (λ (l : LinkId). head_of graph l.0 == node) link (all_links graph)
    (λ l same. eq-eqb (head_of graph l.0) node (ap (head_of graph) same ∙ sym at)) all

-- the link begins at the node
abbrev pub GoesOut : Graph → ℕ → LinkId → Type 0
GoesOut graph node l = tail_of graph l.0 ≡ node

pub outs_go_out : (graph : Graph) (node : ℕ) → All (GoesOut graph node) (outs_of graph node)
outs_go_out graph node =
    All-weaker (λ (l : LinkId). (tail_of graph l.0 == node) ≡ true) (GoesOut graph node) (λ l is. eqb-true (tail_of graph l.0) node is) (outs_of graph node)
    (filter_passes (λ (l : LinkId). tail_of graph l.0 == node) (all_links graph))

-- the link ends at the node
abbrev pub ComesIn : Graph → ℕ → LinkId → Type 0
ComesIn graph node l = head_of graph l.0 ≡ node

pub ins_come_in : (graph : Graph) (node : ℕ) → All (ComesIn graph node) (ins_of graph node)
ins_come_in graph node =
    All-weaker (λ (l : LinkId). (head_of graph l.0 == node) ≡ true) (ComesIn graph node) (λ l is. eqb-true (head_of graph l.0) node is) (ins_of graph node)
    (filter_passes (λ (l : LinkId). head_of graph l.0 == node) (all_links graph))

-- what holds of all holds of the one at a place
link_at : (P : LinkId → Type 0) (ls : List LinkId) (place : ℕ) (l : LinkId) → All P ls → slice_get ls place ≡ Some l → P l
link_at P [] place l all is = cc
link_at P (m ∷ ls) zero l all is = let same : m ≡ l = cc in subst P same (All-head P m ls all)
link_at P (m ∷ ls) (suc place) l all is = link_at P ls place l (All-tail P m ls all) is

turn_among : (P : LinkId → Type 0) (ls : List LinkId) (turn : ℕ) (l : LinkId) → All P ls → in_turn ls turn ≡ Some l → P l
turn_among P [] turn l all is = cc
turn_among P (m ∷ ls) turn l all is = link_at P (m ∷ ls) (turn % length (m ∷ ls)) l all is

routed_out : (known : Bool) (P : LinkId → Type 0) (ls : List LinkId) (turn : ℕ) (l : LinkId) → All P ls
    → (if known then in_turn ls turn else None) ≡ Some l → P l
routed_out true P ls turn l all is = turn_among P ls turn l all is
routed_out false P ls turn l all is = cc

-- a route leads out of its node
pub route_goes_out : (graph : Graph) (dropped : List LinkId) (node src dst : ℕ) (l : LinkId) → route graph dropped node src dst ≡ Some l → GoesOut graph node l
route_goes_out graph dropped node src dst l is =
    routed_out (is_host graph dst) (GoesOut graph node) (firsts_of graph (is_passable graph dropped) node dst) (src + dst) l
    (All-filter (λ (m : LinkId). begins_shortest graph (is_passable graph dropped) node dst m.0) (GoesOut graph node) (outs_of graph node) (outs_go_out graph node)) is
