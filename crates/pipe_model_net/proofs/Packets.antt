-- The principle of packets: what stays true along a run, and holds of each packet as it is put, holds of each that waits and
-- of each that was received.
use Rattle.std.proofs.Common.{◌≡◌, ℕ, ◌==◌, ◌&&◌, not, if◌then◌else◌, Bool, true, false, List, [], ◌∷◌, ◌++◌, Option, None, Some, take, drop, refl, sym, subst, ◌∙◌, zero, suc}
use Rattle.std.specs.List.{All, remove, slice_get}
use Rattle.std.proofs.lemmas.List.Elements.{All-nil, All-cons, All-head, All-tail, All-append, All-take, All-drop, All-weaker}
use Rattle.pipe_base.specs.declared.control.Addressed.{Addressed}
use Rattle.pipe_base.specs.declared.name.LinkId.{LinkId}
use Rattle.pipe_base.specs.declared.packet.Packet.{Packet}
use Rattle.pipe_base.specs.declared.step.Outcome.{Outcome}
use Rattle.pipe_graph.specs.Graph.{Graph}
use Rattle.pipe_model.specs.declared.event.Event.{Event}
use Rattle.pipe_model.specs.declared.event.Event.TheVariants.{Take, Lose, ControlTake}
use Rattle.pipe_model.specs.declared.record.Record.{Record}
use Rattle.pipe_model.specs.declared.record.Took.TheVariants.{Nothing, Link}
use Rattle.pipe_model.specs.Acting.{is_idle, is_own, own}
use Rattle.pipe_model.specs.Moments.{received}
use Rattle.pipe_model.specs.Outcome.{item_at, outcome_of, took_at, took_message}
use Rattle.pipe_model.specs.Packets.{OfAllPackets, receipts, with_receipt}
use Rattle.pipe_model.specs.Run.{IsHistory, IsStep}
use Rattle.pipe_model.specs.Waiting.{is_cut, is_ok, left_after, put_on, waiting_on, waiting_control}
use Rattle.pipe_model.proofs.Own.{own_more, own_same}
use Rattle.pipe_model_net.proofs.Receipts.{receives}

pub removed : {A : Type 0} (P : A → Type 0) (xs : List A) (place : ℕ) → All P xs → All P (remove xs place)
removed P xs place all = All-append P (take place xs) (drop (suc place) xs) (All-take P place xs all) (All-drop P (suc place) xs all)

pub chosen : {A : Type 0} (b : Bool) (P : A → Type 0) (xs ys : List A) → All P xs → All P ys → All P (if b then xs else ys)
chosen true P xs ys all other = all
chosen false P xs ys all other = other

-- an event only takes from what waits
pub left_all : (P : Packet → Type 0) (link : ℕ) (event : Event) (outcome : Outcome) (ps : List Packet) → All P ps → All P (left_after link event outcome ps)
left_all P link (Take l place keep) outcome ps all = chosen ((l.0 == link) && (not keep && not (is_idle outcome))) P (remove ps place) ps (removed P ps place all) all
left_all P link (Lose l place) outcome ps all = chosen ((l.0 == link) && is_ok outcome) P (remove ps place) ps (removed P ps place all) all
left_all P link _ outcome ps all = all

chosen_put : (b : Bool) (P : Packet → Type 0) (p : Packet) (ps : List Packet) → P p → All P ps → All P (if b then p ∷ ps else ps)
chosen_put true P p ps here all = All-cons P p ps here all
chosen_put false P p ps here all = all

-- what was put on one link is among all that was put
pub put_all : (P : Packet → Type 0) (link : ℕ) (puts : List (LinkId × Packet)) → All (λ q. P q.1) puts → All P (put_on link puts)
put_all P link [] all = All-nil P
put_all P link (q ∷ qs) all =
    chosen_put (q.0.0 == link) P q.1 (put_on link qs) (All-head (λ (x : LinkId × Packet). P x.1) q qs all)
    (put_all P link qs (All-tail (λ (x : LinkId × Packet). P x.1) q qs all))

-- the packet that a record took from a link waited there
pub record TookWaited (past : List Record) (r : Record) (p : Packet) : Type 0 where
  pub link : ℕ
  pub place : ℕ
  pub waited : slice_get (waiting_on link past) place ≡ Some p

found : (past : List Record) (r : Record) (link l : LinkId) (place : ℕ) (o : Option Packet) (p : Packet) → slice_get (waiting_on link.0 past) place ≡ o
    → took_at link o ≡ Link l p → TookWaited past r p
found past r link l place None p is took = cc
found past r link l place (Some q) p is took =
    let same : q ≡ p = cc in record { link = link.0; place = place; waited = rw is (rw same refl) }

no_message : (past : List Record) (r : Record) (l : LinkId) (o : Option Addressed) (p : Packet) → took_message o ≡ Link l p → TookWaited past r p
no_message past r l None p took = cc
no_message past r l (Some a) p took = cc

item_by : (past : List Record) (r : Record) (event : Event) (l : LinkId) (p : Packet) → item_at past event ≡ Link l p → TookWaited past r p
item_by past r (Take link place keep) l p took = found past r link l place (slice_get (waiting_on link.0 past) place) p refl took
item_by past r (ControlTake place keep) l p took = no_message past r l (slice_get (waiting_control past) place) p took
item_by past r _ l p took = cc

took_by : (idle : Bool) (past : List Record) (r : Record) (event : Event) (l : LinkId) (p : Packet) → (if idle then Nothing else item_at past event) ≡ Link l p → TookWaited past r p
took_by true past r event l p took = cc
took_by false past r event l p took = item_by past r event l p took

pub took_waited : (graph : Graph) (past : List Record) (r : Record) (l : LinkId) (p : Packet) → IsStep graph past r → r.took ≡ Link l p → TookWaited past r p
took_waited graph past r l p step took = took_by (is_idle (outcome_of graph past r.event)) past r r.event l p (sym step.took_is ∙ took)

-- at a place where something waits, what holds of all holds of it
pub at_place : {A : Type 0} (P : A → Type 0) (xs : List A) (place : ℕ) (x : A) → All P xs → slice_get xs place ≡ Some x → P x
at_place P [] place x all is = cc
at_place P (y ∷ ys) zero x all is = let same : y ≡ x = cc in subst P same (All-head P y ys all)
at_place P (y ∷ ys) (suc place) x all is = at_place P ys place x (All-tail P y ys all) is

-- what is asked of a property: it stays, and holds of what a record puts where it held of what the record took
pub record IsKept (graph : Graph) (Q : List Record → Packet → Type 0) : Type 0 where
  pub stays : (past : List Record) (r : Record) (p : Packet) → IsHistory graph past → IsStep graph past r → Q past p → Q (r ∷ past) p
  pub starts : (past : List Record) (r : Record) → IsHistory graph past → IsStep graph past r → ((l : LinkId) (p : Packet) → r.took ≡ Link l p → Q past p)
      → All (λ q. Q (r ∷ past) q.1) r.step.put

taken_keeps : (graph : Graph) (Q : List Record → Packet → Type 0) (past : List Record) (r : Record) (l : LinkId) (p : Packet)
    → IsStep graph past r → ((link : ℕ) → All (Q past) (waiting_on link past)) → r.took ≡ Link l p → Q past p
taken_keeps graph Q past r l p step waiting took =
    let w = took_waited graph past r l p step took in at_place (Q past) (waiting_on w.link past) w.place p (waiting w.link) w.waited

pub packets_keep : (graph : Graph) (Q : List Record → Packet → Type 0) → IsKept graph Q → (past : List Record) → IsHistory graph past
    → (link : ℕ) → All (Q past) (waiting_on link past)
packets_keep graph Q kept [] run link = All-nil (Q [])
packets_keep graph Q kept (r ∷ past) run link =
    let before : (k : ℕ) → All (Q past) (waiting_on k past) = packets_keep graph Q kept past run.0 in
    chosen (is_cut link (r ∷ past)) (Q (r ∷ past)) [] (left_after link r.event r.step.outcome (waiting_on link past) ++ put_on link r.step.put) (All-nil (Q (r ∷ past)))
    (All-append (Q (r ∷ past)) (left_after link r.event r.step.outcome (waiting_on link past)) (put_on link r.step.put)
    (left_all (Q (r ∷ past)) link r.event r.step.outcome (waiting_on link past)
    (All-weaker (Q past) (Q (r ∷ past)) (λ p. kept.stays past r p run.0 run.1) (waiting_on link past) (before link)))
    (put_all (Q (r ∷ past)) link r.step.put (kept.starts past r run.0 run.1 (λ l p took. taken_keeps graph Q past r l p run.1 before took))))

-- ---- the packets that were received

receipt_more : (P : Packet → Type 0) (o : Option (ℕ × Packet)) (qs : List (ℕ × Packet)) → ((q : ℕ × Packet) → o ≡ Some q → P q.1) → All (λ q. P q.1) qs
    → All (λ q. P q.1) (with_receipt o qs)
receipt_more P None qs new all = all
receipt_more P (Some q) qs new all = All-cons (λ (x : ℕ × Packet). P x.1) q qs (new q refl) all

received_more : (graph : Graph) (Q : List Record → Packet → Type 0) → IsKept graph Q → (past : List Record) (r : Record) (node : ℕ) → IsHistory graph past
    → IsStep graph past r → (b : Bool) → is_own graph node r ≡ b → All (λ q. Q past q.1) (receipts graph node (own graph node past))
    → All (λ q. Q (r ∷ past) q.1) (receipts graph node (own graph node (r ∷ past)))
received_more graph Q kept past r node run step b is before =
    let o : List Record = own graph node past in
    let stay : All (λ q. Q (r ∷ past) q.1) (receipts graph node o) =
    All-weaker (λ (q : ℕ × Packet). Q past q.1) (λ (q : ℕ × Packet). Q (r ∷ past) q.1) (λ (q : ℕ × Packet) holds. kept.stays past r q.1 run step holds) (receipts graph node o) before in
    let new : (q : ℕ × Packet) → received graph node o r ≡ Some q → Q (r ∷ past) q.1 =
    λ q at.
    let w = receives graph node past o r q step at in
    kept.stays past r q.1 run step (at_place (Q past) (waiting_on q.0 past) w.place q.1 (packets_keep graph Q kept past run q.0) w.waited) in
    by_owner b is stay new
  where
    by_owner : (b : Bool) → is_own graph node r ≡ b → All (λ q. Q (r ∷ past) q.1) (receipts graph node (own graph node past))
        → ((q : ℕ × Packet) → received graph node (own graph node past) r ≡ Some q → Q (r ∷ past) q.1) → All (λ q. Q (r ∷ past) q.1) (receipts graph node (own graph node (r ∷ past)))
    by_owner true mine stay new =
        subst (λ (x : List Record). All (λ (q : ℕ × Packet). Q (r ∷ past) q.1) (receipts graph node x)) (sym (own_more graph node r past mine))
        (receipt_more (Q (r ∷ past)) (received graph node (own graph node past) r) (receipts graph node (own graph node past)) new stay)
    by_owner false other stay new =
        subst (λ (x : List Record). All (λ (q : ℕ × Packet). Q (r ∷ past) q.1) (receipts graph node x)) (sym (own_same graph node r past other)) stay

received_keep : (graph : Graph) (Q : List Record → Packet → Type 0) → IsKept graph Q → (past : List Record) → IsHistory graph past
    → (node : ℕ) → All (λ q. Q past q.1) (receipts graph node (own graph node past))
received_keep graph Q kept [] run node = All-nil (λ (q : ℕ × Packet). Q [] q.1)
received_keep graph Q kept (r ∷ past) run node =
    received_more graph Q kept past r node run.0 run.1 (is_own graph node r) refl (received_keep graph Q kept past run.0 node)

pub all_packets_keep : (graph : Graph) (Q : List Record → Packet → Type 0) → IsKept graph Q → (past : List Record) → IsHistory graph past
    → OfAllPackets (Q past) graph past
all_packets_keep graph Q kept past run = record { waiting = packets_keep graph Q kept past run; received = received_keep graph Q kept past run }
