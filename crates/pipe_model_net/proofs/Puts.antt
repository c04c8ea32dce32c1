-- The packets that a record puts: on links out of its node, with one field in each plane, which is at least what the node
-- promised before and at most what it promises after.
use Rattle.std.proofs.Common.{◌≡◌, ℕ, ◌≤◌, ◌==◌, if◌then◌else◌, Bool, true, false, List, [], ◌∷◌, Option, None, Some, filter, refl, inl, inr, sym, subst, ap, ◌∙◌, arith, eqb-true}
use Rattle.std.specs.List.{All}
use Rattle.std.proofs.lemmas.List.Elements.{All-nil, All-cons, All-head, All-tail, All-append, All-map, All-filter, All-weaker}
use Rattle.pipe_base.specs.declared.message.Service.{Service}
use Rattle.pipe_base.specs.declared.message.Service.TheVariants.{BestEffort, Reliable}
use Rattle.pipe_base.specs.declared.name.HostId.{HostId}
use Rattle.pipe_base.specs.declared.name.LinkId.{LinkId}
use Rattle.pipe_base.specs.declared.name.Ts.{Ts}
use Rattle.pipe_base.specs.declared.packet.Packet.{Packet}
use Rattle.pipe_base.specs.declared.packet.Plane.{Plane}
use Rattle.pipe_base.specs.declared.packet.Plane.TheVariants as planes
use Rattle.pipe_base.specs.Barrier.{field_of}
use Rattle.pipe_graph.specs.Graph.{Graph, is_host, outs_of, tail_of}
use Rattle.pipe_base.specs.Packets.{Fields, beacon, sent_to}
use Rattle.pipe_graph.specs.ShortestRoute.{route}
use Rattle.pipe_graph.specs.Passable.{is_passable}
use Rattle.pipe_base.specs.Ways.{on_way, routed}
use Rattle.pipe_model.specs.declared.event.Event.{Event}
use Rattle.pipe_model.specs.declared.event.Event.TheVariants.{Tick}
use Rattle.pipe_model.specs.declared.record.Record.{Record}
use Rattle.pipe_model.specs.Acting.{is_own, own}
use Rattle.pipe_model.specs.Clock.{next, promise}
use Rattle.pipe_model.specs.Duties.{beacons, beacons_of, fields, host_be, owed}
use Rattle.pipe_model.specs.Moments.{barrier_at, known_drops}
use Rattle.pipe_model.specs.NodePromise.{host_promise, node_promise}
use Rattle.pipe_model.specs.OnLink.{field, tail_promise}
use Rattle.pipe_model.specs.Run.{IsNodeStep, IsStep}
use Rattle.pipe_model.specs.Waiting.{put_on}
use Rattle.pipe_model.proofs.Links.{GoesOut, outs_go_out, route_goes_out}
use Rattle.pipe_model.proofs.Own.{own_more, own_same}
use Rattle.pipe_model.proofs.Promises.{next_rises, node_rises, promise_rises, stamp_below}
use Rattle.pipe_model.proofs.Rising.{barrier_rises}
use Rattle.pipe_model.proofs.Stamps.{stamp_above}
use Rattle.pipe_model_net.proofs.Acting.{nobodys_or_own, quiet_puts}
use Rattle.pipe_model_net.proofs.Owed.{puts_each}

-- ---- what is put, with its links

-- the packet has this field
abbrev pub Carries : Plane → ℕ → Packet → Type 0
Carries plane value p = field plane p ≡ value

-- the field of the packets of a record
abbrev pub field_in : Plane → Fields → ℕ
field_in plane f = field_of plane f.be f.commit

sent_carries : (service : Service) (plane : Plane) (src : HostId) (ts : Ts) (f : Fields) (d : HostId × List ℕ) → Carries plane (field_in plane f) (sent_to service src ts f d)
sent_carries BestEffort plane src ts f d = refl
sent_carries Reliable plane src ts f d = refl

puts_carry : (plane : Plane) (graph : Graph) (node : ℕ) (own : List Record) (r : Record) → IsNodeStep graph node own r
    → All (λ q. Carries plane (field_in plane (fields graph node own r)) q.1) r.step.put
puts_carry plane graph node own r step =
    let f : Fields = fields graph node own r in
    puts_each (Carries plane (field_in plane f)) graph node own r step (record {
      sent = λ host service now ts dests event stamp d among. sent_carries service plane host ts f d;
      resent = λ s among d listed. refl;
      recalled = λ s among is d listed. refl;
      passed = λ q at half other. refl;
      answered = λ p gets_is host reliable holding. refl;
      took_back = λ p gets_is host is. refl;
      beacon_too = refl;
    })

-- it is put on a link out of the node
abbrev LeadsOut : Graph → ℕ → (LinkId × Packet) → Type 0
LeadsOut graph node q = GoesOut graph node q.0

on_way_out : (graph : Graph) (node : ℕ) (o : Option LinkId) (p : Packet) (puts : List (LinkId × Packet)) → ((l : LinkId) → o ≡ Some l → GoesOut graph node l)
    → All (LeadsOut graph node) puts → All (LeadsOut graph node) (on_way o p puts)
on_way_out graph node None p puts out all = all
on_way_out graph node (Some l) p puts out all = All-cons (LeadsOut graph node) (l, p) puts (out l refl) all

routed_out : (graph : Graph) (node : ℕ) (dropped : List LinkId) (ps : List Packet) → All (LeadsOut graph node) (routed (route graph dropped node) ps)
routed_out graph node dropped [] = All-nil (LeadsOut graph node)
routed_out graph node dropped (p ∷ ps) =
    on_way_out graph node (route graph dropped node p.src.0 p.dst.0) p (routed (route graph dropped node) ps)
    (λ l is. route_goes_out graph dropped node p.src.0 p.dst.0 l is) (routed_out graph node dropped ps)

beacons_out : (graph : Graph) (node : ℕ) (dropped : List LinkId) (f : Fields) (event : Event) → All (LeadsOut graph node) (beacons_of graph node dropped f event)
beacons_out graph node dropped f (Tick n now) =
    let links : List LinkId = filter (λ l. is_passable graph dropped l.0) (outs_of graph node) in
    All-map (LeadsOut graph node) (λ (l : LinkId). (l, beacon f)) links
    (All-filter (λ (l : LinkId). is_passable graph dropped l.0) (GoesOut graph node) (outs_of graph node) (outs_go_out graph node))
beacons_out graph node dropped f _ = All-nil (LeadsOut graph node)

puts_lead_out : (graph : Graph) (node : ℕ) (own : List Record) (r : Record) → IsNodeStep graph node own r → All (LeadsOut graph node) r.step.put
puts_lead_out graph node own r step =
    let dropped : List LinkId = known_drops (r ∷ own) in
    subst (λ (puts : List (LinkId × Packet)). All (LeadsOut graph node) puts) (sym step.put_is)
    (All-append (LeadsOut graph node) (routed (route graph dropped node) (owed graph node own r)) (beacons graph node own r)
    (routed_out graph node dropped (owed graph node own r)) (beacons_out graph node dropped (fields graph node own r) r.event))

abbrev IsOut : Plane → Graph → ℕ → ℕ → (LinkId × Packet) → Type 0
IsOut plane graph node value q = GoesOut graph node q.0 × Carries plane value q.1

put_out : (plane : Plane) (graph : Graph) (node : ℕ) (own : List Record) (r : Record) → IsNodeStep graph node own r
    → All (IsOut plane graph node (field_in plane (fields graph node own r))) r.step.put
put_out plane graph node own r step k d lt = (puts_lead_out graph node own r step k d lt, puts_carry plane graph node own r step k d lt)

-- ---- on one link

-- a packet that the node put on the link
abbrev pub IsOn : Plane → Graph → ℕ → ℕ → ℕ → Packet → Type 0
IsOn plane graph node link value p = (tail_of graph link ≡ node) × Carries plane value p

chosen_on : (b : Bool) (plane : Plane) (graph : Graph) (node link value : ℕ) (q : LinkId × Packet) (ps : List Packet) → (q.0.0 == link) ≡ b
    → IsOut plane graph node value q → All (IsOn plane graph node link value) ps → All (IsOn plane graph node link value) (if b then q.1 ∷ ps else ps)
chosen_on true plane graph node link value q ps is out all =
    All-cons (IsOn plane graph node link value) q.1 ps (sym (ap (tail_of graph) (eqb-true q.0.0 link is)) ∙ out.0, out.1) all
chosen_on false plane graph node link value q ps is out all = all

put_on_link : (plane : Plane) (graph : Graph) (node link value : ℕ) (puts : List (LinkId × Packet)) → All (IsOut plane graph node value) puts
    → All (IsOn plane graph node link value) (put_on link puts)
put_on_link plane graph node link value [] all = All-nil (IsOn plane graph node link value)
put_on_link plane graph node link value (q ∷ qs) all =
    chosen_on (q.0.0 == link) plane graph node link value q (put_on link qs) refl (All-head (IsOut plane graph node value) q qs all)
    (put_on_link plane graph node link value qs (All-tail (IsOut plane graph node value) q qs all))

-- what a node's record puts on a link: the node is its tail
pub puts_on : (plane : Plane) (graph : Graph) (node link : ℕ) (own : List Record) (r : Record) → IsNodeStep graph node own r
    → All (IsOn plane graph node link (field_in plane (fields graph node own r))) (put_on link r.step.put)
puts_on plane graph node link own r step =
    put_on_link plane graph node link (field_in plane (fields graph node own r)) r.step.put (put_out plane graph node own r step)

-- ---- what is promised

stamp_between : (o : Option Ts) (before after : ℕ) → before ≤ after → ((ts : Ts) → o ≡ Some ts → (before ≤ ts.0) × (ts.0 ≤ after))
    → (before ≤ host_be o after) × (host_be o after ≤ after)
stamp_between None before after rises stamp = (rises, omega arith)
stamp_between (Some ts) before after rises stamp = stamp ts refl

host_between : (plane : Plane) (graph : Graph) (node : ℕ) (own : List Record) (r : Record) → IsNodeStep graph node own r
    → (host_promise plane graph node own ≤ field_of plane (host_be r.step.stamped (next graph node (r ∷ own))) (promise graph node (r ∷ own)))
    × (field_of plane (host_be r.step.stamped (next graph node (r ∷ own))) (promise graph node (r ∷ own)) ≤ host_promise plane graph node (r ∷ own))
host_between planes.BestEffort graph node own r step =
    stamp_between r.step.stamped (next graph node own) (next graph node (r ∷ own)) (next_rises graph node own r)
    (λ ts is. (stamp_above graph node own r.event ts (sym step.stamped_is ∙ is), let lt = stamp_below graph node own r ts is in omega arith))
host_between planes.Commit graph node own r step = (promise_rises graph node own r step, omega arith)

half_between : (plane : Plane) (graph : Graph) (node : ℕ) (own : List Record) (r : Record)
    → (barrier_at plane graph node own ≤ field_of plane (barrier_at planes.BestEffort graph node (r ∷ own)) (barrier_at planes.Commit graph node (r ∷ own)))
    × (field_of plane (barrier_at planes.BestEffort graph node (r ∷ own)) (barrier_at planes.Commit graph node (r ∷ own)) ≤ barrier_at plane graph node (r ∷ own))
half_between planes.BestEffort graph node own r = (barrier_rises planes.BestEffort graph node own r, omega arith)
half_between planes.Commit graph node own r = (barrier_rises planes.Commit graph node own r, omega arith)

chosen_between : (b : Bool) (plane : Plane) (h f : Fields) (host_before before host_after after : ℕ)
    → (host_before ≤ field_in plane h) × (field_in plane h ≤ host_after) → (before ≤ field_in plane f) × (field_in plane f ≤ after)
    → ((if b then host_before else before) ≤ field_in plane (if b then h else f)) × (field_in plane (if b then h else f) ≤ (if b then host_after else after))
chosen_between true plane h f host_before before host_after after host half = host
chosen_between false plane h f host_before before host_after after host half = half

-- the field of a record is between the promises before and after it
pub field_between : (plane : Plane) (graph : Graph) (node : ℕ) (own : List Record) (r : Record) → IsNodeStep graph node own r
    → (node_promise plane graph node own ≤ field_in plane (fields graph node own r)) × (field_in plane (fields graph node own r) ≤ node_promise plane graph node (r ∷ own))
field_between plane graph node own r step =
    chosen_between (is_host graph node) plane
    (record { be = host_be r.step.stamped (next graph node (r ∷ own)); commit = promise graph node (r ∷ own) })
    (record { be = barrier_at planes.BestEffort graph node (r ∷ own); commit = barrier_at planes.Commit graph node (r ∷ own) })
    (host_promise plane graph node own) (barrier_at plane graph node own) (host_promise plane graph node (r ∷ own)) (barrier_at plane graph node (r ∷ own))
    (host_between plane graph node own r step) (half_between plane graph node own r)

own_rises : (b : Bool) (plane : Plane) (graph : Graph) (node : ℕ) (past : List Record) (r : Record) → is_own graph node r ≡ b → IsStep graph past r
    → node_promise plane graph node (own graph node past) ≤ node_promise plane graph node (own graph node (r ∷ past))
own_rises true plane graph node past r is step =
    subst (λ (o : List Record). node_promise plane graph node (own graph node past) ≤ node_promise plane graph node o) (sym (own_more graph node r past is))
    (node_rises plane graph node (own graph node past) r (step.node node is))
own_rises false plane graph node past r isnt step =
    subst (λ (o : List Record). node_promise plane graph node (own graph node past) ≤ node_promise plane graph node o) (sym (own_same graph node r past isnt)) (omega arith)

-- what a tail promises never falls
pub tail_rises : (plane : Plane) (graph : Graph) (link : ℕ) (past : List Record) (r : Record) → IsStep graph past r
    → tail_promise plane graph link past ≤ tail_promise plane graph link (r ∷ past)
tail_rises plane graph link past r step = own_rises (is_own graph (tail_of graph link) r) plane graph (tail_of graph link) past r refl step

-- ---- in a run

-- a packet that a record put on a link: its field is between what the tail promised before and promises after
pub record IsPutBetween (plane : Plane) (before after value : ℕ) (p : Packet) : Type 0 where
  pub carries : Carries plane value p
  pub above : before ≤ value
  pub below : value ≤ after

on_between : (plane : Plane) (graph : Graph) (node link value : ℕ) (past : List Record) (r : Record) (p : Packet) → is_own graph node r ≡ true
    → (node_promise plane graph node (own graph node past) ≤ value) × (value ≤ node_promise plane graph node (r ∷ own graph node past))
    → IsOn plane graph node link value p → IsPutBetween plane (tail_promise plane graph link past) (tail_promise plane graph link (r ∷ past)) value p
on_between plane graph node link value past r p mine between on =
    let before : tail_promise plane graph link past ≡ node_promise plane graph node (own graph node past) =
    ap (λ (n : ℕ). node_promise plane graph n (own graph n past)) on.0 in
    let after : tail_promise plane graph link (r ∷ past) ≡ node_promise plane graph node (r ∷ own graph node past) =
    ap (λ (n : ℕ). node_promise plane graph n (own graph n (r ∷ past))) on.0 ∙ ap (node_promise plane graph node) (own_more graph node r past mine) in
    record {
      carries = on.1;
      above = subst (λ (x : ℕ). x ≤ value) (sym before) between.0;
      below = subst (λ (x : ℕ). value ≤ x) (sym after) between.1;
    }

-- what a record puts on a link
abbrev pub PutsBetween : Plane → Graph → ℕ → List Record → Record → Type 0
PutsBetween plane graph link past r =
    (value : ℕ) × All (IsPutBetween plane (tail_promise plane graph link past) (tail_promise plane graph link (r ∷ past)) value) (put_on link r.step.put)

pub puts_between : (plane : Plane) (graph : Graph) (link : ℕ) (past : List Record) (r : Record) → IsStep graph past r → PutsBetween plane graph link past r
puts_between plane graph link past r step =
    let before : ℕ = tail_promise plane graph link past in
    let after : ℕ = tail_promise plane graph link (r ∷ past) in
    elim (nobodys_or_own graph r) [
      | inl quiet ↦ (
        0,
        subst (λ (puts : List (LinkId × Packet)). All (IsPutBetween plane before after 0) (put_on link puts)) (sym (quiet_puts graph past r step quiet))
            (All-nil (IsPutBetween plane before after 0)),
      )
      | inr mine ↦
          let o : List Record = own graph mine.0 past in
          let value : ℕ = field_in plane (fields graph mine.0 o r) in
          let owes : IsNodeStep graph mine.0 o r = step.node mine.0 mine.1 in (
            value,
            All-weaker (IsOn plane graph mine.0 link value) (IsPutBetween plane before after value)
                (λ p on. on_between plane graph mine.0 link value past r p mine.1 (field_between plane graph mine.0 o r owes) on) (put_on link r.step.put)
                (puts_on plane graph mine.0 link o r owes),
          )
    ]
