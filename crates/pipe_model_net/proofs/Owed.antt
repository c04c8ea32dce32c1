-- What a record of a node puts, kind by kind: what holds of each kind holds of all that is put.
use Rattle.std.proofs.Common.{◌≡◌, ℕ, ◌&&◌, not, if◌then◌else◌, Bool, true, false, List, [], ◌∷◌, Option, None, Some, map, filter, refl, sym, subst}
use Rattle.std.specs.Prelude.{flat_map}
use Rattle.std.specs.List.{All, Contains}
use Rattle.std.proofs.lemmas.List.Elements.{All-nil, All-cons, All-append, All-map, All-contains_itself, All-filter, All-weaker, All-head, All-tail}
use Rattle.pipe_base.specs.declared.message.Service.{Service}
use Rattle.pipe_base.specs.declared.message.Service.TheVariants.{Reliable}
use Rattle.pipe_base.specs.declared.name.HostId.{HostId}
use Rattle.pipe_base.specs.declared.name.LinkId.{LinkId}
use Rattle.pipe_base.specs.declared.name.Ts.{Ts}
use Rattle.pipe_base.specs.declared.packet.Packet.{Packet}
use Rattle.pipe_base.specs.declared.step.Fate.{Fate}
use Rattle.pipe_base.specs.Fate.{is_holding}
use Rattle.pipe_graph.specs.Graph.{Graph, is_host, outs_of}
use Rattle.pipe_base.specs.Packets.{Fields, ack_to, beacon, forwarded, prepare_to, recall_ack_to, recall_to, sent_to}
use Rattle.pipe_base.specs.Resends.{resends, resends_for}
use Rattle.pipe_base.specs.Scattering.{Scattering, SenderCall}
use Rattle.pipe_base.specs.Settled.{awaits, is_acked, is_recalled, unsettled}
use Rattle.pipe_graph.specs.ShortestRoute.{route}
use Rattle.pipe_graph.specs.Passable.{is_passable}
use Rattle.pipe_base.specs.Ways.{on_way, routed}
use Rattle.pipe_model.specs.declared.event.Event.{Event}
use Rattle.pipe_model.specs.declared.event.Event.TheVariants.{Send, Tick, Take}
use Rattle.pipe_model.specs.declared.record.Record.{Record}
use Rattle.pipe_model.specs.Duties.{beacons, beacons_of, fields, owed, owed_by_half, owed_by_host, owed_by_send, owed_of}
use Rattle.pipe_model.specs.Got.{carries, gets, is_beacon}
use Rattle.pipe_model.specs.Moments.{known_drops, received}
use Rattle.pipe_model.specs.Recalls.{is_recall}
use Rattle.pipe_model.specs.Run.{IsNodeStep}
use Rattle.pipe_model.specs.Sender.{sender_calls}

-- what is asked of each kind of packet that the node may put in the record, all with the fields of the record
pub record OfEachPut (P : Packet → Type 0) (graph : Graph) (node : ℕ) (own : List Record) (r : Record) : Type 0 where
  pub sent : (host : HostId) (service : Service) (now ts : Ts) (dests : List (HostId × List ℕ)) → r.event ≡ Send host service now dests → r.step.stamped ≡ Some ts
      → (d : HostId × List ℕ) → Contains dests d → P (sent_to service host ts (fields graph node own r) d)
  pub resent : (s : Scattering) → Contains (unsettled (sender_calls graph node (r ∷ own))) s → (d : HostId × List ℕ) → Contains s.dests d
      → P (prepare_to (record { 0 = node }) s.ts (fields graph node own r) d)
  pub recalled : (s : Scattering) → Contains (unsettled (sender_calls graph node (r ∷ own))) s → is_recalled (sender_calls graph node (r ∷ own)) s ≡ true
      → (d : HostId × List ℕ) → Contains s.dests d → P (recall_to (record { 0 = node }) s.ts (fields graph node own r) d)
  pub passed : (q : ℕ × Packet) → received graph node own r ≡ Some q → is_host graph node ≡ false → is_beacon q.1.kind ≡ false → P (forwarded (fields graph node own r) q.1)
  pub answered : (p : Packet) → gets graph node own r ≡ Some p → is_host graph node ≡ true → carries Reliable p.kind ≡ true → is_holding r.step.fate ≡ true
      → P (ack_to (record { 0 = node }) (fields graph node own r) p)
  pub took_back : (p : Packet) → gets graph node own r ≡ Some p → is_host graph node ≡ true → is_recall p.kind ≡ true
      → P (recall_ack_to (record { 0 = node }) (fields graph node own r) p)
  pub beacon_too : P (beacon (fields graph node own r))

-- ---- what is owed

each_of : (P : Packet → Type 0) (make : HostId × List ℕ → Packet) (dests : List (HostId × List ℕ)) → ((d : HostId × List ℕ) → Contains dests d → P (make d))
    → All P (map make dests)
each_of P make dests each =
    All-map P make dests (All-weaker (Contains dests) (λ (d : HostId × List ℕ). P (make d)) each dests (All-contains_itself dests))

owed_send : (P : Packet → Type 0) (service : Service) (src : HostId) (f : Fields) (dests : List (HostId × List ℕ)) (stamp : Option Ts)
    → ((ts : Ts) → stamp ≡ Some ts → (d : HostId × List ℕ) → Contains dests d → P (sent_to service src ts f d)) → All P (owed_by_send service src f dests stamp)
owed_send P service src f dests None each = All-nil P
owed_send P service src f dests (Some ts) each = each_of P (sent_to service src ts f) dests (each ts refl)

unless : (b : Bool) (P : Packet → Type 0) (p : Packet) → (b ≡ false → P p) → All P (if b then [] else p ∷ [])
unless true P p each = All-nil P
unless false P p each = All-cons P p [] (each refl) (All-nil P)

owed_half : (P : Packet → Type 0) (f : Fields) (o : Option (ℕ × Packet)) → ((q : ℕ × Packet) → o ≡ Some q → is_beacon q.1.kind ≡ false → P (forwarded f q.1))
    → All P (owed_by_half f o)
owed_half P f None each = All-nil P
owed_half P f (Some q) each = unless (is_beacon q.1.kind) P (forwarded f q.1) (each q refl)

where_either : (a b c : Bool) (P : Packet → Type 0) (p q : Packet) → (a ≡ true → b ≡ true → P p) → (c ≡ true → P q)
    → All P (if a && b then p ∷ [] else if c then q ∷ [] else [])
where_either true true c P p q each other = All-cons P p [] (each refl refl) (All-nil P)
where_either true false true P p q each other = All-cons P q [] (other refl) (All-nil P)
where_either true false false P p q each other = All-nil P
where_either false b true P p q each other = All-cons P q [] (other refl) (All-nil P)
where_either false b false P p q each other = All-nil P

owed_host : (P : Packet → Type 0) (host : ℕ) (f : Fields) (fate : Option Fate) (o : Option Packet)
    → ((p : Packet) → o ≡ Some p → carries Reliable p.kind ≡ true → is_holding fate ≡ true → P (ack_to (record { 0 = host }) f p))
    → ((p : Packet) → o ≡ Some p → is_recall p.kind ≡ true → P (recall_ack_to (record { 0 = host }) f p)) → All P (owed_by_host host f fate o)
owed_host P host f fate None each other = All-nil P
owed_host P host f fate (Some p) each other =
    where_either (carries Reliable p.kind) (is_holding fate) (is_recall p.kind) P (ack_to (record { 0 = host }) f p) (recall_ack_to (record { 0 = host }) f p) (each p refl)
    (other p refl)

either_list : (b : Bool) (P : Packet → Type 0) (xs ys : List Packet) → (b ≡ true → All P xs) → (b ≡ false → All P ys) → All P (if b then xs else ys)
either_list true P xs ys one other = one refl
either_list false P xs ys one other = other refl

of_each : (P : Packet → Type 0) (make : Scattering → List Packet) (ss : List Scattering) → All (λ s. All P (make s)) ss → All P (flat_map make ss)
of_each P make [] all = All-nil P
of_each P make (s ∷ ss) all =
    All-append P (make s) (flat_map make ss) (All-head (λ (t : Scattering). All P (make t)) s ss all)
    (of_each P make ss (All-tail (λ (t : Scattering). All P (make t)) s ss all))

-- those of the receivers that a test leaves
left_of : (P : Packet → Type 0) (make : HostId × List ℕ → Packet) (test : HostId × List ℕ → Bool) (dests : List (HostId × List ℕ))
    → ((d : HostId × List ℕ) → Contains dests d → P (make d)) → All P (map make (filter test dests))
left_of P make test dests each =
    let OfOne : HostId × List ℕ → Type 0 = λ d. P (make d) in
    All-map P make (filter test dests) (All-filter test OfOne dests (All-weaker (Contains dests) OfOne each dests (All-contains_itself dests)))

resent_for : (P : Packet → Type 0) (calls : List SenderCall) (src : HostId) (f : Fields) (s : Scattering)
    → ((d : HostId × List ℕ) → Contains s.dests d → P (prepare_to src s.ts f d))
    → (is_recalled calls s ≡ true → (d : HostId × List ℕ) → Contains s.dests d → P (recall_to src s.ts f d)) → All P (resends_for calls src f s)
resent_for P calls src f s each back =
    let waits : HostId × List ℕ → Bool = λ d. awaits calls s d.0.0 in
    let open_to : HostId × List ℕ → Bool = λ d. not (is_acked calls s.ts.0 d.0.0) in
    either_list (is_recalled calls s) P (map (recall_to src s.ts f) (filter waits s.dests)) (map (prepare_to src s.ts f) (filter open_to s.dests))
    (λ is. left_of P (recall_to src s.ts f) waits s.dests (back is)) (λ isnt. left_of P (prepare_to src s.ts f) open_to s.dests each)

owed_resends : (P : Packet → Type 0) (calls : List SenderCall) (src : HostId) (f : Fields)
    → ((s : Scattering) → Contains (unsettled calls) s → (d : HostId × List ℕ) → Contains s.dests d → P (prepare_to src s.ts f d))
    → ((s : Scattering) → Contains (unsettled calls) s → is_recalled calls s ≡ true → (d : HostId × List ℕ) → Contains s.dests d → P (recall_to src s.ts f d))
    → All P (resends calls src f)
owed_resends P calls src f each back =
    let OfOne : Scattering → Type 0 = λ s. All P (resends_for calls src f s) in
    of_each P (resends_for calls src f) (unsettled calls)
    (All-weaker (Contains (unsettled calls)) OfOne (λ s among. resent_for P calls src f s (each s among) (back s among)) (unsettled calls) (All-contains_itself (unsettled calls)))

owed_each : (P : Packet → Type 0) (graph : Graph) (node : ℕ) (own : List Record) (r : Record) (event : Event) → OfEachPut P graph node own r → r.event ≡ event
    → All P (owed_of graph node (fields graph node own r) own r event)
owed_each P graph node own r (Send host service now dests) each is =
    owed_send P service host (fields graph node own r) dests r.step.stamped (λ ts stamp. each.sent host service now ts dests is stamp)
owed_each P graph node own r (Tick n now) each is =
    let calls : List SenderCall = sender_calls graph node (r ∷ own) in
    either_list (is_host graph node) P (resends calls (record { 0 = node }) (fields graph node own r)) []
    (λ host. owed_resends P calls (record { 0 = node }) (fields graph node own r) each.resent each.recalled) (λ half. All-nil P)
owed_each P graph node own r (Take link place keep) each is =
    let f : Fields = fields graph node own r in
    either_list (is_host graph node) P (owed_by_host node f r.step.fate (gets graph node own r)) (owed_by_half f (received graph node own r))
    (λ host. owed_host P node f r.step.fate (gets graph node own r) (λ p got. each.answered p got host) (λ p got. each.took_back p got host))
    (λ half. owed_half P f (received graph node own r) (λ q at. each.passed q at half))
owed_each P graph node own r _ each is = All-nil P

-- ---- what is put

-- what holds of the owed packets holds of those that have a way
on_way_all : (P : Packet → Type 0) (o : Option LinkId) (p : Packet) (puts : List (LinkId × Packet)) → P p → All (λ q. P q.1) puts → All (λ q. P q.1) (on_way o p puts)
on_way_all P None p puts here all = all
on_way_all P (Some l) p puts here all = All-cons (λ (q : LinkId × Packet). P q.1) (l, p) puts here all

routed_all : (P : Packet → Type 0) (way : ℕ → ℕ → Option LinkId) (ps : List Packet) → All P ps → All (λ q. P q.1) (routed way ps)
routed_all P way [] all = All-nil (λ (q : LinkId × Packet). P q.1)
routed_all P way (p ∷ ps) all =
    on_way_all P (way p.src.0 p.dst.0) p (routed way ps) (All-head P p ps all) (routed_all P way ps (All-tail P p ps all))

beacons_all : (P : Packet → Type 0) (graph : Graph) (node : ℕ) (dropped : List LinkId) (f : Fields) (event : Event) → P (beacon f)
    → All (λ q. P q.1) (beacons_of graph node dropped f event)
beacons_all P graph node dropped f (Tick n now) here =
    let links : List LinkId = filter (λ l. is_passable graph dropped l.0) (outs_of graph node) in
    All-map (λ (q : LinkId × Packet). P q.1) (λ (l : LinkId). (l, beacon f)) links (λ k d lt. here)
beacons_all P graph node dropped f _ here = All-nil (λ (q : LinkId × Packet). P q.1)

pub puts_each : (P : Packet → Type 0) (graph : Graph) (node : ℕ) (own : List Record) (r : Record) → IsNodeStep graph node own r → OfEachPut P graph node own r
    → All (λ q. P q.1) r.step.put
puts_each P graph node own r step each =
    let dropped : List LinkId = known_drops (r ∷ own) in
    subst (λ (puts : List (LinkId × Packet)). All (λ (q : LinkId × Packet). P q.1) puts) (sym step.put_is)
    (All-append (λ (q : LinkId × Packet). P q.1) (routed (route graph dropped node) (owed graph node own r)) (beacons graph node own r)
    (routed_all P (route graph dropped node) (owed graph node own r) (owed_each P graph node own r r.event each refl))
    (beacons_all P graph node dropped (fields graph node own r) r.event each.beacon_too))
