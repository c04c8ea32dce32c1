-- What a node puts in a step: few items, on links of the graph.
use Rattle.std.proofs.Common.{ℕ, zero, suc, ◌+◌, ◌*◌, ◌<◌, ◌≤◌, ◌==◌, ◌%◌, ◌&&◌, Bool, true, false, if◌then◌else◌, List, [], ◌∷◌, length, map, filter, Option, None, Some, sym, subst, ap, arith, length-append, ◌++◌, not, nat_lt}
use Rattle.std.specs.List.{All}
use Rattle.std.specs.Prelude.{IfSome, flat_map, slice_get}
use Rattle.std.proofs.lemmas.List.{length-map}
use Rattle.std.proofs.lemmas.List.Elements.{All-nil, All-cons, All-append, All-filter, All-head, All-map, All-tail}
use Rattle.std.proofs.lemmas.List.FromFn.{length-map-range_with_len}
use Rattle.std.proofs.lemmas.List.Sums.{count_by-le-length, length-filter}
use Rattle.pipe_base.specs.Settled.{is_recalling}
use Rattle.pipe_base.specs.declared.control.Addressed.{Addressed}
use Rattle.pipe_base.specs.declared.control.Control.TheVariants.{Done, Gone}
use Rattle.pipe_base.specs.declared.control.To.TheVariants.{Controller}
use Rattle.pipe_base.specs.declared.message.Service.{Service}
use Rattle.pipe_base.specs.declared.message.Service.TheVariants.{Reliable}
use Rattle.pipe_base.specs.declared.name.HostId.{HostId}
use Rattle.pipe_base.specs.declared.name.LinkId.{LinkId}
use Rattle.pipe_base.specs.declared.name.Ts.{Ts}
use Rattle.pipe_base.specs.declared.packet.Packet.{Packet}
use Rattle.pipe_base.specs.declared.step.Fate.{Fate}
use Rattle.pipe_base.specs.Fate.{is_holding}
use Rattle.pipe_graph.specs.Graph.{Graph, all_links, head_of, ins_of, is_host, link_id, outs_of, tail_of}
use Rattle.pipe_base.specs.Limits.{most_receivers, most_unsettled}
use Rattle.pipe_base.specs.Packets.{Fields, ack_to, beacon, forwarded, sent_to, recall_ack_to}
use Rattle.pipe_base.specs.Resends.{resends}
use Rattle.pipe_graph.specs.ShortestRoute.{begins_shortest, firsts_of, route}
use Rattle.pipe_graph.specs.Passable.{not_dropped, is_passable}
use Rattle.pipe_base.specs.Ways.{in_turn, on_way, routed}
use Rattle.pipe_model.specs.Recalls.{is_recall}
use Rattle.pipe_model.specs.declared.event.Event.{Event}
use Rattle.pipe_model.specs.declared.event.Event.TheVariants.{Send, Tick, Take}
use Rattle.pipe_model.specs.declared.record.Record.{Record}
use Rattle.pipe_model.specs.Duties.{beacons, beacons_of, control_of, down_told, fields, owed, owed_by_half, owed_by_host, owed_by_send, owed_of, done_told, downs_told, gone_told}
use Rattle.pipe_model.specs.Event.{IsOfGraph}
use Rattle.pipe_model.specs.Got.{carries, gets, is_beacon}
use Rattle.pipe_model.specs.Items.{items_in}
use Rattle.pipe_model.specs.Marks.{mark}
use Rattle.pipe_model.specs.Moments.{known_drops, received, noted_hosts}
use Rattle.pipe_model.specs.NeverLate.{AreOfGraph}
use Rattle.pipe_model.specs.Run.{IsNodeHistory, IsNodeStep}
use Rattle.pipe_model.specs.Sender.{sender_calls}
use Rattle.pipe_model.proofs.Window.{resends_few}
use Rattle.pipe_graph.proofs.RouteLaws.{outs_all}
use Rattle.pipe_world.specs.Queues.{AreKnown}

-- ---- few items

abbrev pub most_resent : ℕ
most_resent = most_unsettled * most_receivers

on_way_few : (way : Option LinkId) (p : Packet) (puts : List (LinkId × Packet)) → length (on_way way p puts) ≤ length puts + 1
on_way_few None p puts = omega arith
on_way_few (Some l) p puts = omega arith

routed_few : (way : ℕ → ℕ → Option LinkId) (ps : List Packet) → length (routed way ps) ≤ length ps
routed_few way [] = omega arith
routed_few way (p ∷ ps) = omega (arith, on_way_few (way p.src.0 p.dst.0) p (routed way ps), routed_few way ps)

sent_few : (service : Service) (src : HostId) (f : Fields) (dests : List (HostId × List ℕ)) (stamp : Option Ts) → length dests ≤ most_receivers
    → length (owed_by_send service src f dests stamp) ≤ most_resent
sent_few service src f dests None few = omega arith
sent_few service src f dests (Some ts) few = omega (arith, length-map dests (sent_to service src ts f), few)

none_or_one : (t : Bool) (p : Packet) → length (if t then [] else p ∷ []) ≤ most_resent
none_or_one true p = omega arith
none_or_one false p = omega arith

answer_few : (held recalls : Bool) (p q : Packet) → length (if held then p ∷ [] else if recalls then q ∷ [] else []) ≤ most_resent
answer_few true recalls p q = omega arith
answer_few false true p q = omega arith
answer_few false false p q = omega arith

answered_few : (host : ℕ) (f : Fields) (fate : Option Fate) (got : Option Packet) → length (owed_by_host host f fate got) ≤ most_resent
answered_few host f fate None = omega arith
answered_few host f fate (Some p) =
    answer_few (carries Reliable p.kind && is_holding fate) (is_recall p.kind) (ack_to (record { 0 = host }) f p) (recall_ack_to (record { 0 = host }) f p)

forwarded_few : (f : Fields) (received : Option (ℕ × Packet)) → length (owed_by_half f received) ≤ most_resent
forwarded_few f None = omega arith
forwarded_few f (Some q) = none_or_one (is_beacon q.1.kind) (forwarded f q.1)

either_few : (t : Bool) (ps qs : List Packet) → length ps ≤ most_resent → length qs ≤ most_resent → length (if t then ps else qs) ≤ most_resent
either_few true ps qs first second = first
either_few false ps qs first second = second

-- a node owes no more packets that are to find a way than a full window of scatterings has receivers
owed_few : (graph : Graph) (node : ℕ) (f : Fields) (own : List Record) (r : Record) (event : Event) → IsOfGraph graph event
    → (length (resends (sender_calls graph node (r ∷ own)) (record { 0 = node }) f) ≤ most_resent) → length (owed_of graph node f own r event) ≤ most_resent
owed_few graph node f own r (Send host service now dests) names again = sent_few service host f dests r.step.stamped names.receivers.few
owed_few graph node f own r (Tick n now) names again =
    either_few (is_host graph node) (resends (sender_calls graph node (r ∷ own)) (record { 0 = node }) f) [] again (omega arith)
owed_few graph node f own r (Take link place keep) names again =
    either_few (is_host graph node) (owed_by_host node f r.step.fate (gets graph node own r)) (owed_by_half f (received graph node own r))
    (answered_few node f r.step.fate (gets graph node own r)) (forwarded_few f (received graph node own r))
owed_few graph node f own r _ names again = omega arith

filter_few : (test : LinkId → Bool) (ls : List LinkId) → length (filter test ls) ≤ length ls
filter_few test ls = omega (arith, length-filter test ls, count_by-le-length test ls)

tick_few : (graph : Graph) (node : ℕ) (dropped : List LinkId) (f : Fields)
    → length {A = LinkId × Packet} (map (λ (l : LinkId). (l, beacon f)) (filter (λ (l : LinkId). is_passable graph dropped l.0) (outs_of graph node))) ≤ length graph.links
tick_few graph node dropped f =
    omega (
      arith,
      length-map {B = LinkId × Packet} (filter (λ (l : LinkId). is_passable graph dropped l.0) (outs_of graph node)) (λ (l : LinkId). (l, beacon f)),
      filter_few (λ (l : LinkId). is_passable graph dropped l.0) (outs_of graph node),
      filter_few (λ (l : LinkId). tail_of graph l.0 == node) (all_links graph),
      length-map-range_with_len link_id 0 (length graph.links),
    )

-- at most a beacon for each link
beacons_few : (graph : Graph) (node : ℕ) (dropped : List LinkId) (f : Fields) (event : Event) → length (beacons_of graph node dropped f event) ≤ length graph.links
beacons_few graph node dropped f (Tick n now) = tick_few graph node dropped f
beacons_few graph node dropped f _ = omega arith

told_few : (l : LinkId) (o : Option Ts) → length (down_told l o) ≤ 1
told_few l None = omega arith
told_few l (Some value) = omega arith

flat_few : (f : LinkId → List Addressed) (ls : List LinkId) → ((l : LinkId) → length (f l) ≤ 1) → length (flat_map f ls) ≤ length ls
flat_few f [] few = omega arith
flat_few f (l ∷ ls) few = omega (arith, length-append (f l) (flat_map f ls), few l, flat_few f ls few)

count_few : (told : Bool) (m : Addressed) → length (if told then m ∷ [] else []) ≤ 1
count_few true m = omega arith
count_few false m = omega arith

-- at most a report for each link, and two counts
tells_few : (graph : Graph) (node : ℕ) (own : List Record) (event : Event) → length (control_of graph node own event) ≤ length graph.links + 2
tells_few graph node own (Tick n now) =
    let ins : List LinkId = filter (λ (l : LinkId). not_dropped (known_drops own) l.0) (ins_of graph node) in
    omega (
      arith,
      length-append (downs_told graph node own ++ done_told graph node own) (gone_told node own),
      length-append (downs_told graph node own) (done_told graph node own),
      count_few (is_host graph node && (nat_lt 0 (length (noted_hosts own)) && not (is_recalling (sender_calls graph node own))))
          (record { to = Controller; control = Done (record { 0 = node }) (length (noted_hosts own)) }),
      count_few (nat_lt 0 (length (known_drops own))) (record { to = Controller; control = Gone (record { 0 = node }) (length (known_drops own)) }),
      flat_few (λ (l : LinkId). down_told l (mark own l.0)) ins (λ l. told_few l (mark own l.0)),
      filter_few (λ (l : LinkId). not_dropped (known_drops own) l.0) (ins_of graph node),
      filter_few (λ (l : LinkId). head_of graph l.0 == node) (all_links graph),
      length-map-range_with_len link_id 0 (length graph.links),
    )
tells_few graph node own _ = omega arith

-- after records that are owed, of events of the network, a step puts few items
pub items_few : (graph : Graph) (node : ℕ) (own : List Record) (r : Record) → IsNodeHistory graph node own → AreOfGraph graph own → IsOfGraph graph r.event
    → IsNodeStep graph node own r → items_in r ≤ most_resent + length graph.links + length graph.links + 2
items_few graph node own r past known names step =
    let way : ℕ → ℕ → Option LinkId = route graph (known_drops (r ∷ own)) node in
    let f : Fields = fields graph node own r in
    omega (
      arith,
      ap length step.put_is,
      ap length step.control_is,
      length-append (routed way (owed graph node own r)) (beacons graph node own r),
      routed_few way (owed graph node own r),
      owed_few graph node f own r r.event names
          (resends_few graph node (r ∷ own) (record { 0 = node }) f (past, step) (All-cons (λ (x : Record). IsOfGraph graph x.event) r own names known)),
      beacons_few graph node (known_drops (r ∷ own)) f r.event,
      tells_few graph node (r ∷ own) r.event,
    )

-- ---- on links of the graph

abbrev Known : Graph → LinkId → Type 0
Known graph l = l.0 < length graph.links

pub got_all : {A : Type 0} (P : A → Type 0) (ls : List A) (n : ℕ) → All P ls → IfSome (slice_get ls n) P
got_all P [] n all = tt
got_all P (l ∷ ls) zero all = All-head P l ls all
got_all P (l ∷ ls) (suc n) all = got_all P ls n (All-tail P l ls all)

turn_all : (P : LinkId → Type 0) (ls : List LinkId) (turn : ℕ) → All P ls → IfSome (in_turn ls turn) P
turn_all P [] turn all = tt
turn_all P (l ∷ ls) turn all = got_all P (l ∷ ls) (turn % length (l ∷ ls)) all

way_all : (t : Bool) (P : LinkId → Type 0) (ls : List LinkId) (turn : ℕ) → All P ls → IfSome (if t then in_turn ls turn else None) P
way_all true P ls turn all = turn_all P ls turn all
way_all false P ls turn all = tt

outs_known : (graph : Graph) (node : ℕ) → All (Known graph) (outs_of graph node)
outs_known graph node = outs_all graph node (Known graph) (λ l lt begins. lt)

-- a route goes along a link of the graph
route_known : (graph : Graph) (dropped : List LinkId) (node src dst : ℕ) → IfSome (route graph dropped node src dst) (Known graph)
route_known graph dropped node src dst =
    way_all (is_host graph dst) (Known graph) (firsts_of graph (is_passable graph dropped) node dst) (src + dst)
    (All-filter (λ (l : LinkId). begins_shortest graph (is_passable graph dropped) node dst l.0) (Known graph) (outs_of graph node) (outs_known graph node))

on_way_known : (graph : Graph) (way : Option LinkId) (p : Packet) (puts : List (LinkId × Packet)) → IfSome way (Known graph) → AreKnown (length graph.links) puts
    → AreKnown (length graph.links) (on_way way p puts)
on_way_known graph None p puts here rest = rest
on_way_known graph (Some l) p puts here rest = All-cons (λ (q : LinkId × Packet). q.0.0 < length graph.links) (l, p) puts here rest

routed_known : (graph : Graph) (dropped : List LinkId) (node : ℕ) (ps : List Packet) → AreKnown (length graph.links) (routed (route graph dropped node) ps)
routed_known graph dropped node [] = All-nil (λ (q : LinkId × Packet). q.0.0 < length graph.links)
routed_known graph dropped node (p ∷ ps) =
    on_way_known graph (route graph dropped node p.src.0 p.dst.0) p (routed (route graph dropped node) ps) (route_known graph dropped node p.src.0 p.dst.0)
    (routed_known graph dropped node ps)

beacons_known : (graph : Graph) (node : ℕ) (dropped : List LinkId) (f : Fields) (event : Event) → AreKnown (length graph.links) (beacons_of graph node dropped f event)
beacons_known graph node dropped f (Tick n now) =
    All-map (λ (q : LinkId × Packet). q.0.0 < length graph.links) (λ (l : LinkId). (l, beacon f)) (filter (λ (l : LinkId). is_passable graph dropped l.0) (outs_of graph node))
    (All-filter (λ (l : LinkId). is_passable graph dropped l.0) (Known graph) (outs_of graph node) (outs_known graph node))
beacons_known graph node dropped f _ = All-nil (λ (q : LinkId × Packet). q.0.0 < length graph.links)

pub puts_known : (graph : Graph) (node : ℕ) (own : List Record) (r : Record) → IsNodeStep graph node own r → AreKnown (length graph.links) r.step.put
puts_known graph node own r step =
    subst (AreKnown (length graph.links)) (sym step.put_is)
    (All-append (λ (q : LinkId × Packet). q.0.0 < length graph.links) (routed (route graph (known_drops (r ∷ own)) node) (owed graph node own r)) (beacons graph node own r)
    (routed_known graph (known_drops (r ∷ own)) node (owed graph node own r))
    (beacons_known graph node (known_drops (r ∷ own)) (fields graph node own r) r.event))
