-- Where a scattering is prepared, each of its receivers held it: its acknowledgement was received.
use Rattle.std.proofs.Common.{◌≡◌, ◌⊎◌, ℕ, ◌==◌, ◌&&◌, not, if◌then◌else◌, Bool, true, false, List, [], ◌∷◌, Option, None, Some, refl, inl, inr, sym, subst, ap, ◌∙◌, eqb-true}
use Rattle.std.specs.List.{All, list_all}
use Rattle.std.proofs.lemmas.Bool.{and_parts, or_cases}
use Rattle.std.proofs.lemmas.List.Elements.{All-nil, All-cons, All-head, All-tail}
use Rattle.pipe_base.specs.declared.control.Announced.{Announced}
use Rattle.pipe_base.specs.declared.message.Service.TheVariants.{Reliable}
use Rattle.pipe_base.specs.declared.name.HostId.{HostId}
use Rattle.pipe_base.specs.declared.name.Ts.{Ts}
use Rattle.pipe_base.specs.declared.packet.Packet.{Packet}
use Rattle.pipe_graph.specs.Graph.{Graph, is_host}
use Rattle.pipe_base.specs.Scattering.{Scattering, SenderCall, Acked, RecallAcked, is_begun}
use Rattle.pipe_base.specs.Settled.{is_acked, is_prepared}
use Rattle.pipe_model.specs.declared.event.Event.{Event}
use Rattle.pipe_model.specs.declared.event.Event.TheVariants.{Send}
use Rattle.pipe_model.specs.declared.record.Record.{Record}
use Rattle.pipe_model.specs.Acknowledged.{HasHeld, IsAckTrue}
use Rattle.pipe_model.specs.Acting.{own}
use Rattle.pipe_model.specs.Got.{gets, gets_of, is_beacon}
use Rattle.pipe_model.specs.Moments.{noted_hosts, received}
use Rattle.pipe_model.specs.Packets.{receipts, with_receipt}
use Rattle.pipe_model.specs.PreparedHeld.{ArePreparedHeld, IsHeldByAll}
use Rattle.pipe_model.specs.Run.{IsHistory}
use Rattle.pipe_model.specs.Sender.{accepted_stamp, is_ack, is_recall_ack, sender_calls, with_answer, with_begun, with_noted}
use Rattle.pipe_model_net.proofs.Acks.{acks_true}

-- ---- the packet that a host gets

pub record IsGot (node : ℕ) (o : Option (ℕ × Packet)) (p : Packet) : Type 0 where
  pub link : ℕ
  pub received_is : o ≡ Some (link, p)
  pub dst : p.dst.0 ≡ node

got_by : (a b c : Bool) (node : ℕ) (q : ℕ × Packet) (p : Packet) → (q.1.dst.0 == node) ≡ b → (if a && (b && c) then Some q.1 else None) ≡ Some p → IsGot node (Some q) p
got_by true true true node q p dst is =
    let same : q.1 ≡ p = cc in
    record { link = q.0; received_is = ap (λ (x : Packet). Some (q.0, x)) same; dst = ap (λ (x : Packet). x.dst.0) (sym same) ∙ eqb-true q.1.dst.0 node dst }
got_by true true false node q p dst is = cc
got_by true false c node q p dst is = cc
got_by false b c node q p dst is = cc

pub is_got : (graph : Graph) (node : ℕ) (o : Option (ℕ × Packet)) (p : Packet) → gets_of graph node o ≡ Some p → IsGot node o p
is_got graph node None p is = cc
is_got graph node (Some q) p is = got_by (is_host graph node) (q.1.dst.0 == node) (not (is_beacon q.1.kind)) node q p refl is

-- what holds of all receipts holds of the newest
pub newest : (P : ℕ × Packet → Type 0) (o : Option (ℕ × Packet)) (q : ℕ × Packet) (qs : List (ℕ × Packet)) → o ≡ Some q → All P (with_receipt o qs) → P q
newest P None q qs is all = cc
newest P (Some x) q qs is all = let same : x ≡ q = cc in subst P same (All-head P x qs all)

pub rest_of : (P : ℕ × Packet → Type 0) (o : Option (ℕ × Packet)) (qs : List (ℕ × Packet)) → All P (with_receipt o qs) → All P qs
rest_of P None qs all = all
rest_of P (Some x) qs all = All-tail P x qs all

-- ---- an acknowledgement that counts was received

abbrev Receipt : Graph → List Record → (ℕ × Packet) → Type 0
Receipt graph past q = IsAckTrue graph past q.1

-- the message of a host under this timestamp was held at the other one
abbrev WasHeld : Graph → List Record → ℕ → ℕ → ℕ → Type 0
WasHeld graph past host ts other = HasHeld graph other (record { ts = record { 0 = ts }; src = record { 0 = host } }) past

-- a scattering that is begun makes no acknowledgement count
begun_acked : (event : Event) (stamp : Option Ts) (calls : List SenderCall) (ts other : ℕ) → is_acked (with_begun event stamp calls) ts other ≡ true
    → is_acked calls ts other ≡ true
begun_acked (Send host Reliable now dests) (Some stamp) calls ts other is = is
begun_acked _ _ calls ts other is = is

-- this acknowledgement counts, or one before it
counted : (graph : Graph) (past : List Record) (host ts other : ℕ) (p : Packet) (calls : List SenderCall) → IsAckTrue graph past p → is_ack p.kind ≡ true → p.dst.0 ≡ host
    → (is_acked calls ts other ≡ true → WasHeld graph past host ts other)
    → (((ts == p.ts.0) && (other == p.src.0)) && is_begun calls ts ≡ true) ⊎ (is_acked calls ts other ≡ true) → WasHeld graph past host ts other
counted graph past host ts other p calls holds ack dst before (inr old) = before old
counted graph past host ts other p calls holds ack dst before (inl here) =
    let both = and_parts (ts == p.ts.0) (other == p.src.0) (and_parts ((ts == p.ts.0) && (other == p.src.0)) (is_begun calls ts) here).0 in
    subst (λ (n : ℕ). WasHeld graph past host n other) (sym (eqb-true ts p.ts.0 both.0))
    (subst (λ (n : ℕ). WasHeld graph past host p.ts.0 n) (sym (eqb-true other p.src.0 both.1))
    (subst (λ (n : ℕ). WasHeld graph past n p.ts.0 p.src.0) dst (holds ack)))

by_answer : (ack back : Bool) (graph : Graph) (past : List Record) (host ts other : ℕ) (p : Packet) (calls : List SenderCall) → is_ack p.kind ≡ ack → IsAckTrue graph past p
    → p.dst.0 ≡ host → (is_acked calls ts other ≡ true → WasHeld graph past host ts other)
    → is_acked (if ack then Acked p.ts.0 p.src.0 ∷ calls else if back then RecallAcked p.ts.0 p.src.0 ∷ calls else calls) ts other ≡ true → WasHeld graph past host ts other
by_answer true back graph past host ts other p calls ack holds dst before is =
    counted graph past host ts other p calls holds ack dst before
    (or_cases (((ts == p.ts.0) && (other == p.src.0)) && is_begun calls ts) (is_acked calls ts other) is)
by_answer false true graph past host ts other p calls ack holds dst before is = before is
by_answer false false graph past host ts other p calls ack holds dst before is = before is

by_gets : (graph : Graph) (past : List Record) (host ts other : ℕ) (o : Option Packet) (calls : List SenderCall)
    → ((p : Packet) → o ≡ Some p → IsAckTrue graph past p × (p.dst.0 ≡ host)) → (is_acked calls ts other ≡ true → WasHeld graph past host ts other)
    → is_acked (with_answer o calls) ts other ≡ true → WasHeld graph past host ts other
by_gets graph past host ts other None calls holds before is = before is
by_gets graph past host ts other (Some p) calls holds before is =
    by_answer (is_ack p.kind) (is_recall_ack p.kind) graph past host ts other p calls refl (holds p refl).0 (holds p refl).1 before is

-- failed hosts that are noted make no acknowledgement count
noted_acked : (noted new : List Announced) (calls : List SenderCall) (ts other : ℕ) → is_acked (with_noted noted new calls) ts other ≡ true → is_acked calls ts other ≡ true
noted_acked noted [] calls ts other is = is
noted_acked noted (a ∷ more) calls ts other is = is

-- whatever was received by the host is among the receipts, each of which is true
acked_held : (graph : Graph) (past : List Record) (host : ℕ) (own : List Record) → All (Receipt graph past) (receipts graph host own)
    → (ts other : ℕ) → is_acked (sender_calls graph host own) ts other ≡ true → WasHeld graph past host ts other
acked_held graph past host [] all ts other is = cc
acked_held graph past host (r ∷ own) all ts other is =
    let first : List SenderCall = with_begun r.event (accepted_stamp r.step) (sender_calls graph host own) in
    by_gets graph past host ts other (gets graph host own r) first
    (λ p got.
    let w = is_got graph host (received graph host own r) p got in
    (newest (Receipt graph past) (received graph host own r) (w.link, p) (receipts graph host own) w.received_is all, w.dst))
    (λ old. acked_held graph past host own (rest_of (Receipt graph past) (received graph host own r) (receipts graph host own) all) ts other
    (begun_acked r.event (accepted_stamp r.step) (sender_calls graph host own) ts other old))
    (noted_acked (noted_hosts (r ∷ own)) r.step.noted (with_answer (gets graph host own r) first) ts other is)

-- ---- all receivers

tested : {X : Type 0} (test : X → Bool) (P : X → Type 0) (xs : List X) → ((x : X) → test x ≡ true → P x) → list_all test xs ≡ true → All P xs
tested test P [] each is = All-nil P
tested test P (x ∷ xs) each is =
    let parts = and_parts (test x) (list_all test xs) is in All-cons P x xs (each x parts.0) (tested test P xs each parts.1)

abbrev IsHeldFor : Graph → List Record → ℕ → Scattering → (HostId × List ℕ) → Type 0
IsHeldFor graph past host s d = WasHeld graph past host s.ts.0 d.0.0

held_of : (graph : Graph) (past : List Record) (host : ℕ) (calls : List SenderCall) (s : Scattering)
    → ((ts other : ℕ) → is_acked calls ts other ≡ true → WasHeld graph past host ts other) → is_prepared calls s ≡ true → IsHeldByAll graph host past s
held_of graph past host calls s each is =
    tested (λ (d : HostId × List ℕ). is_acked calls s.ts.0 d.0.0) (IsHeldFor graph past host s) s.dests (λ (d : HostId × List ℕ) acked. each s.ts.0 d.0.0 acked) is

pub prepared_held : (graph : Graph) (past : List Record) → IsHistory graph past → ArePreparedHeld graph past
prepared_held graph past run host k d lt prepared =
    let o : List Record = own graph host past in
    held_of graph past host (sender_calls graph host o) _ (acked_held graph past host o ((acks_true graph past run).received host)) prepared
