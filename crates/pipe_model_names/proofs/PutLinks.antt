-- What a node puts in a step goes on links of the network.
use Rattle.std.proofs.Common.{ℕ, zero, suc, ◌+◌, ◌%◌, Bool, true, false, if◌then◌else◌, List, [], ◌∷◌, length, filter, Option, None, Some, sym, subst}
use Rattle.std.specs.List.{All}
use Rattle.std.specs.Prelude.{IfSome, slice_get}
use Rattle.std.proofs.lemmas.List.Elements.{All-nil, All-cons, All-append, All-filter, All-head, All-map, All-tail}
use Rattle.pipe_base.specs.declared.name.LinkId.{LinkId}
use Rattle.pipe_base.specs.declared.packet.Packet.{Packet}
use Rattle.pipe_base.specs.Packets.{Fields, beacon}
use Rattle.pipe_base.specs.Ways.{in_turn, on_way, routed}
use Rattle.pipe_graph.specs.Graph.{Graph, is_host, outs_of}
use Rattle.pipe_graph.specs.Passable.{is_passable}
use Rattle.pipe_graph.specs.ShortestRoute.{begins_shortest, firsts_of, route}
use Rattle.pipe_graph.proofs.RouteLaws.{outs_all}
use Rattle.pipe_model.specs.declared.event.Event.{Event}
use Rattle.pipe_model.specs.declared.event.Event.TheVariants.{Tick}
use Rattle.pipe_model.specs.declared.record.Record.{Record}
use Rattle.pipe_model.specs.Duties.{beacons, beacons_of, fields, owed}
use Rattle.pipe_model.specs.Moments.{known_drops}
use Rattle.pipe_model.specs.Run.{IsNodeStep}
use Rattle.pipe_model_names.specs.Names.{IsLinkOf}

pub got_all : {A : Type 0} (P : A → Type 0) (ls : List A) (n : ℕ) → All P ls → IfSome (slice_get ls n) P
got_all P [] n all = tt
got_all P (l ∷ ls) zero all = All-head P l ls all
got_all P (l ∷ ls) (suc n) all = got_all P ls n (All-tail P l ls all)

turn_all : (P : LinkId → Type 0) (ls : List LinkId) (turn : ℕ) → All P ls → IfSome (in_turn ls turn) P
turn_all P [] turn all = tt
turn_all P (l ∷ ls) turn all = got_all P (l ∷ ls) (turn % length (l ∷ ls)) all

way_all : (t : Bool) (P : LinkId → Type 0) (ls : List LinkId) (turn : ℕ) → All P ls → IfSome (if t then in_turn ls turn else None) P
way_all true P ls turn all = turn_all P ls turn all
way_all false P ls turn all = tt

outs_known : (graph : Graph) (node : ℕ) → All (IsLinkOf graph) (outs_of graph node)
outs_known graph node = outs_all graph node (IsLinkOf graph) (λ l lt begins. lt)

-- a route goes along a link of the network
route_known : (graph : Graph) (dropped : List LinkId) (node src dst : ℕ) → IfSome (route graph dropped node src dst) (IsLinkOf graph)
route_known graph dropped node src dst =
    way_all (is_host graph dst) (IsLinkOf graph) (firsts_of graph (is_passable graph dropped) node dst) (src + dst)
    (All-filter (λ (l : LinkId). begins_shortest graph (is_passable graph dropped) node dst l.0) (IsLinkOf graph) (outs_of graph node) (outs_known graph node))

abbrev pub AreOnLinks : Graph → List (LinkId × Packet) → Type 0
AreOnLinks graph puts = All (λ q. IsLinkOf graph q.0) puts

on_way_known : (graph : Graph) (way : Option LinkId) (p : Packet) (puts : List (LinkId × Packet)) → IfSome way (IsLinkOf graph) → AreOnLinks graph puts
    → AreOnLinks graph (on_way way p puts)
on_way_known graph None p puts here rest = rest
on_way_known graph (Some l) p puts here rest = All-cons (λ (q : LinkId × Packet). IsLinkOf graph q.0) (l, p) puts here rest

routed_known : (graph : Graph) (dropped : List LinkId) (node : ℕ) (ps : List Packet) → AreOnLinks graph (routed (route graph dropped node) ps)
routed_known graph dropped node [] = All-nil (λ (q : LinkId × Packet). IsLinkOf graph q.0)
routed_known graph dropped node (p ∷ ps) =
    on_way_known graph (route graph dropped node p.src.0 p.dst.0) p (routed (route graph dropped node) ps) (route_known graph dropped node p.src.0 p.dst.0)
    (routed_known graph dropped node ps)

beacons_known : (graph : Graph) (node : ℕ) (dropped : List LinkId) (f : Fields) (event : Event) → AreOnLinks graph (beacons_of graph node dropped f event)
beacons_known graph node dropped f (Tick n now) =
    All-map (λ (q : LinkId × Packet). IsLinkOf graph q.0) (λ (l : LinkId). (l, beacon f)) (filter (λ (l : LinkId). is_passable graph dropped l.0) (outs_of graph node))
    (All-filter (λ (l : LinkId). is_passable graph dropped l.0) (IsLinkOf graph) (outs_of graph node) (outs_known graph node))
beacons_known graph node dropped f _ = All-nil (λ (q : LinkId × Packet). IsLinkOf graph q.0)

pub puts_known : (graph : Graph) (node : ℕ) (own : List Record) (r : Record) → IsNodeStep graph node own r → AreOnLinks graph r.step.put
puts_known graph node own r step =
    subst (AreOnLinks graph) (sym step.put_is)
    (All-append (λ (q : LinkId × Packet). IsLinkOf graph q.0) (routed (route graph (known_drops (r ∷ own)) node) (owed graph node own r)) (beacons graph node own r)
    (routed_known graph (known_drops (r ∷ own)) node (owed graph node own r))
    (beacons_known graph node (known_drops (r ∷ own)) (fields graph node own r) r.event))
