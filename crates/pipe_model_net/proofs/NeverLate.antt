-- Where links keep order no best-effort message is late: each that waits is at least all fields received on its link and all
-- that wait before it, and a barrier is at most what was received on each link that is up.
use Rattle.std.proofs.Common.{◌≡◌, ℕ, ◌≤◌, ◌==◌, ◌&&◌, not, nat_lt, if◌then◌else◌, Bool, true, false, List, [], ◌∷◌, ◌++◌, Option, None, Some, refl, inl, inr, sym, subst, ap, ◌∙◌, arith, le_trans, nat_le}
use Rattle.std.specs.List.{All}
use Rattle.std.specs.Option.{option_or}
use Rattle.std.proofs.lemmas.Bool.Decides.{nat_tests}
use Rattle.std.proofs.lemmas.List.{append-nil}
use Rattle.std.proofs.lemmas.List.Elements.{All-nil, All-cons, All-head, All-tail, All-weaker}
use Rattle.pipe_base.specs.Failed.{time_of}
use Rattle.pipe_base.specs.Fate.{fate_among, fate_from}
use Rattle.pipe_base.specs.declared.control.Announced.{Announced}
use Rattle.pipe_base.specs.declared.message.Key.{Key}
use Rattle.pipe_base.specs.declared.message.Service.TheVariants.{BestEffort, Reliable}
use Rattle.pipe_base.specs.declared.name.Ts.{Ts}
use Rattle.pipe_base.specs.declared.packet.Packet.{Packet}
use Rattle.pipe_base.specs.declared.packet.PacketKind.{PacketKind}
use Rattle.pipe_base.specs.declared.packet.PacketKind.TheVariants.{Plain}
use Rattle.pipe_base.specs.declared.packet.Plane.TheVariants as plane
use Rattle.pipe_base.specs.declared.step.Fate.{Fate}
use Rattle.pipe_base.specs.declared.step.Fate.TheVariants.{Held, Late, Repeat, Discarded, Recalled}
use Rattle.pipe_base.specs.declared.step.Outcome.{Outcome}
use Rattle.pipe_base.specs.declared.step.Step.{Step}
use Rattle.pipe_graph.specs.Graph.{Graph, ins_of, is_host}
use Rattle.pipe_base.specs.Messages.{Messages, has_key}
use Rattle.pipe_base.proofs.BarrierLaws.{barrier-le_register}
use Rattle.pipe_model.proofs.Decisions.{nobodys_fate}
use Rattle.pipe_model.specs.Controller.{view}
use Rattle.pipe_model.specs.declared.event.Event.{Event}
use Rattle.pipe_model.specs.declared.record.Record.{Record}
use Rattle.pipe_model.specs.Acting.{is_own, own}
use Rattle.pipe_model.specs.Event.{IsOfGraph}
use Rattle.pipe_model.specs.Fate.{fate, fate_for, fate_in, held, recalled_for}
use Rattle.pipe_model.specs.Got.{carries, gets_of, got, is_beacon, key_of, message_of}
use Rattle.pipe_model.specs.Moments.{barrier_at, moments_of, received, noted_hosts}
use Rattle.pipe_model.specs.NeverLate.{AreLinksOrdered, AreOfGraph, IsNeverLate, IsOfOldest, is_late, took_best}
use Rattle.pipe_model.specs.OnLink.{AreFieldsPromised, greatest_received, tail_promise}
use Rattle.pipe_model.specs.Run.{IsHistory}
use Rattle.pipe_model.specs.Waiting.{is_cut, left_after, put_on, waiting_on}
use Rattle.pipe_model_net.proofs.Acting.{nobodys_or_own}
use Rattle.pipe_model_net.proofs.Genuine.{Brings, brings}
use Rattle.pipe_model_net.proofs.Ordered.{AreSettled, IsOrderedStep, IsReceipt, IsSettled, at_head, receipt, received_settled}
use Rattle.pipe_model_net.proofs.Packets.{left_all, put_all}
use Rattle.pipe_model_net.proofs.Promised.{FieldBelow, fields_promised, received_promised}
use Rattle.pipe_model_net.proofs.Puts.{IsPutBetween, PutsBetween, puts_between}
use Rattle.pipe_model_net.proofs.Timely.{IsTimely, puts_timely}
use Rattle.pipe_model_net.proofs.Sent.{received_took}
use Rattle.pipe_model_net.proofs.Settled.{IsAbove, IsFresh, IsSettledBy, first_above, settled_left, settled_more}

-- ---- the links stay settled

fresh_on : (before after field : ℕ) (ps : List Packet) → All (IsPutBetween plane.BestEffort before after field) ps → All IsTimely ps → All (IsFresh field) ps
fresh_on before after field ps puts timely k d lt =
    let put = puts k d lt in
    record { carries = put.carries; timely = λ plain. omega (arith, put.carries, timely k d lt plain) }

chosen : (b : Bool) (bound : ℕ) (ps : List Packet) → IsSettledBy bound ps → IsSettledBy bound (if b then [] else ps)
chosen true bound ps settled = tt
chosen false bound ps settled = settled

-- what is put is not below what waits: its field is at least what the tail promised before
added_settled : (promised bound field after link : ℕ) (event : Event) (outcome : Outcome) (ps puts : List Packet) → bound ≤ promised → All (FieldBelow plane.BestEffort promised) ps
    → All (IsPutBetween plane.BestEffort promised after field) puts → All IsTimely puts → IsSettledBy bound (left_after link event outcome ps)
    → IsSettledBy bound (left_after link event outcome ps ++ puts)
added_settled promised bound field after link event outcome ps [] low below put timely settled = subst (IsSettledBy bound) (sym (append-nil (left_after link event outcome ps))) settled
added_settled promised bound field after link event outcome ps (q ∷ qs) low below put timely settled =
    let above : promised ≤ field = (All-head (IsPutBetween plane.BestEffort promised after field) q qs put).above in
    let left : List Packet = left_after link event outcome ps in
    settled_more bound field left (q ∷ qs) (le_trans low above)
    (All-weaker (FieldBelow plane.BestEffort promised) (FieldBelow plane.BestEffort field) (λ p le. le_trans le above) left (left_all (FieldBelow plane.BestEffort promised) link event outcome ps below))
    settled (fresh_on promised after field (q ∷ qs) put timely)

settled_on : (graph : Graph) (link : ℕ) (past : List Record) (r : Record) → IsHistory graph past → IsOrderedStep graph past r → AreSettled graph past
    → IsSettled graph link (r ∷ past)
settled_on graph link past r run step settled =
    let promised : AreFieldsPromised plane.BestEffort graph link past = fields_promised plane.BestEffort graph past run link in
    let puts : PutsBetween plane.BestEffort graph link past r = puts_between plane.BestEffort graph link past r step.rules in
    let bound : ℕ = greatest_received plane.BestEffort graph link (r ∷ past) in
    chosen (is_cut link (r ∷ past)) bound (left_after link r.event r.step.outcome (waiting_on link past) ++ put_on link r.step.put)
    (added_settled (tail_promise plane.BestEffort graph link past) bound puts.0 (tail_promise plane.BestEffort graph link (r ∷ past)) link r.event r.step.outcome (waiting_on link past)
    (put_on link r.step.put) (received_promised plane.BestEffort graph link past r step.rules promised) promised.waiting puts.1
    (put_all IsTimely link r.step.put (puts_timely graph past r step settled))
    (settled_left bound link r.event r.step.outcome (waiting_on link past) (received_settled graph link past r step (settled link))))

-- a record of a history whose links keep order
pub head_ordered : (graph : Graph) (past : List Record) (r : Record) → IsHistory graph (r ∷ past) → AreOfGraph graph (r ∷ past) → AreLinksOrdered (r ∷ past)
    → IsOrderedStep graph past r
head_ordered graph past r run known ordered = record {
  rules = run.1;
  known = All-head (λ (x : Record). IsOfGraph graph x.event) r past known;
  oldest = All-head (λ (x : Record). IsOfOldest x.event) r past ordered;
}

pub run_settled : (graph : Graph) (past : List Record) → IsHistory graph past → AreOfGraph graph past → AreLinksOrdered past → AreSettled graph past
run_settled graph [] run known ordered link = tt
run_settled graph (r ∷ past) run known ordered link =
    settled_on graph link past r run.0 (head_ordered graph past r run known ordered)
    (run_settled graph past run.0 (All-tail (λ (x : Record). IsOfGraph graph x.event) r past known) (All-tail (λ (x : Record). IsOfOldest x.event) r past ordered))

-- ---- no message is late

among_fate : (recalled repeated : Bool) → is_late (Some (if recalled then Recalled else if repeated then Repeat else Held)) ≡ false
among_fate true repeated = refl
among_fate false true = refl
among_fate false false = refl

void_fate : (void : Bool) (time : Ts) (recalled : Bool) (ms : Messages) (key : Key) → is_late (Some (if void then Discarded time else fate_among recalled ms key)) ≡ false
void_fate true time recalled ms key = refl
void_fate false time recalled ms key = among_fate recalled (has_key key ms)

from_fate : (failed : Option Ts) (recalled : Bool) (ms : Messages) (key : Key) → is_late (Some (fate_from failed recalled ms key)) ≡ false
from_fate None recalled ms key = among_fate recalled (has_key key ms)
from_fate (Some time) recalled ms key = void_fate (nat_le time.0 key.ts.0) time recalled ms key

chosen_fate : (late : Bool) (barrier : Ts) (f : Fate) → late ≡ false → is_late (Some f) ≡ false → is_late (Some (if late then Late barrier else f)) ≡ false
chosen_fate true barrier f never other = cc
chosen_fate false barrier f never other = other

not_below : (barrier ts : ℕ) → barrier ≤ ts → nat_lt ts barrier ≡ false
not_below barrier ts le = grind (arith, nat_tests, le)

in_time : (barrier : ℕ) (failed : List Announced) (recalled : Key → Bool) (ms : Messages) (o : Option Packet) → ((p : Packet) → o ≡ Some p → barrier ≤ p.ts.0)
    → is_late (fate_for barrier failed recalled ms o) ≡ false
in_time barrier failed recalled ms None above = refl
in_time barrier failed recalled ms (Some p) above =
    let failed_at : Option Ts = time_of p.src.0 failed in
    chosen_fate (nat_lt p.ts.0 barrier) (record { 0 = barrier }) (fate_from failed_at (recalled (key_of p)) ms (key_of p)) (not_below barrier p.ts.0 (above p refl))
    (from_fate failed_at (recalled (key_of p)) ms (key_of p))

-- the barrier before a receipt is at most what was received on its link
barrier_before : (graph : Graph) (past : List Record) (node : ℕ) (q : ℕ × Packet) → IsReceipt graph past node q
    → barrier_at plane.BestEffort graph node (own graph node past) ≤ greatest_received plane.BestEffort graph q.0 past
barrier_before graph past node q at =
    subst (λ (n : ℕ). barrier_at plane.BestEffort graph node (own graph node past) ≤ n) (at_head graph past node q.0 at.head)
    (barrier-le_register plane.BestEffort (ins_of graph node) (moments_of graph node (own graph node past)) q.0 at.among at.up)

plain_of : (k : PacketKind) → carries BestEffort k ≡ true → k ≡ Plain
plain_of Plain is = refl
plain_of _ is = cc

got_above : (graph : Graph) (past : List Record) (r : Record) (node : ℕ) (o : Option (ℕ × Packet)) (p : Packet) → IsOrderedStep graph past r
    → is_own graph node r ≡ true → AreSettled graph past → received graph node (own graph node past) r ≡ o → message_of BestEffort (gets_of graph node o) ≡ Some p
    → barrier_at plane.BestEffort graph node (own graph node past) ≤ p.ts.0
got_above graph past r node None p step mine settled is got = cc
got_above graph past r node (Some q) p step mine settled is got =
    let at : IsReceipt graph past node q = receipt graph past r node q step mine is in
    let b : Brings BestEffort node q p = brings BestEffort graph node q p got in
    let above : IsAbove (greatest_received plane.BestEffort graph q.0 past) p =
    subst (IsAbove (greatest_received plane.BestEffort graph q.0 past)) b.same (first_above (greatest_received plane.BestEffort graph q.0 past) (waiting_on q.0 past) q.1 at.first (settled q.0)) in
    le_trans (barrier_before graph past node q at) (above (plain_of p.kind b.kind))

best_in_time : (graph : Graph) (past : List Record) (r : Record) (node : ℕ) → IsOrderedStep graph past r → is_own graph node r ≡ true → AreSettled graph past
    → is_late (fate_in BestEffort graph node (own graph node past) r) ≡ false
best_in_time graph past r node step mine settled =
    let o : List Record = own graph node past in
    in_time (barrier_at plane.BestEffort graph node o) [] (recalled_for BestEffort graph node o) (held BestEffort graph node o) (got BestEffort graph node o r)
    (λ p got. got_above graph past r node (received graph node o r) p step mine settled refl got)

-- a record that took a best-effort message brings no reliable one
not_reliable : (k : PacketKind) → carries BestEffort k ≡ true → carries Reliable k ≡ false
not_reliable Plain is = refl
not_reliable _ is = cc

no_message : (b : Bool) (p : Packet) → carries Reliable p.kind ≡ false → message_of Reliable (if b then Some p else None) ≡ None
no_message true p isnt = rw isnt refl
no_message false p isnt = refl

none_reliable : (graph : Graph) (node : ℕ) (o : Option (ℕ × Packet)) → ((q : ℕ × Packet) → o ≡ Some q → carries Reliable q.1.kind ≡ false)
    → message_of Reliable (gets_of graph node o) ≡ None
none_reliable graph node None isnt = refl
none_reliable graph node (Some q) isnt = no_message (is_host graph node && ((q.1.dst.0 == node) && not (is_beacon q.1.kind))) q.1 (isnt q refl)

took_no_reliable : (graph : Graph) (node : ℕ) (own : List Record) (r : Record) → took_best r.took ≡ true → got Reliable graph node own r ≡ None
took_no_reliable graph node own r best =
    none_reliable graph node (received graph node own r) (λ q is.
    let took = received_took (moments_of graph node own) r.event r.took q is in
    not_reliable q.1.kind (sym (ap took_best took.1) ∙ best))

late_or_none : (f : Option Fate) → is_late f ≡ false → is_late (option_or f None) ≡ false
late_or_none None is = refl
late_or_none (Some f) is = is

fate_in_time : (graph : Graph) (past : List Record) (r : Record) (node : ℕ) → IsOrderedStep graph past r → is_own graph node r ≡ true → AreSettled graph past
    → took_best r.took ≡ true → is_late (fate graph node (own graph node past) r) ≡ false
fate_in_time graph past r node step mine settled best =
    let o : List Record = own graph node past in
    let only : fate graph node o r ≡ option_or (fate_in BestEffort graph node o r) None =
    ap (λ (g : Option Packet). option_or (fate_in BestEffort graph node o r) (fate_for (barrier_at plane.Commit graph node o) (noted_hosts o) (recalled_for Reliable graph node o) (held Reliable graph node o) g))
    (took_no_reliable graph node o r best) in
    ap is_late only ∙ late_or_none (fate_in BestEffort graph node o r) (best_in_time graph past r node step mine settled)

never_late_now : (graph : Graph) (past : List Record) (r : Record) → IsOrderedStep graph past r → AreSettled graph past → took_best r.took ≡ true
    → is_late r.step.fate ≡ false
never_late_now graph past r step settled best =
    elim (nobodys_or_own graph r) [
      | inl quiet ↦ ap (λ (s : Step). is_late s.fate) (step.rules.nobodys quiet) ∙ ap is_late (nobodys_fate graph (view graph past) r.event r.step.outcome)
      | inr mine ↦ ap is_late (step.rules.node mine.0 mine.1).fate_is ∙ fate_in_time graph past r mine.0 step mine.1 settled best
    ]

abbrev IsInTime : Record → Type 0
IsInTime r = took_best r.took ≡ true → is_late r.step.fate ≡ false

pub never_late : (graph : Graph) (past : List Record) → IsHistory graph past → AreOfGraph graph past → AreLinksOrdered past → IsNeverLate past
never_late graph [] run known ordered = All-nil IsInTime
never_late graph (r ∷ past) run known ordered =
    let before_known : AreOfGraph graph past = All-tail (λ (x : Record). IsOfGraph graph x.event) r past known in
    let before_ordered : AreLinksOrdered past = All-tail (λ (x : Record). IsOfOldest x.event) r past ordered in
    All-cons IsInTime r past
    (λ best. never_late_now graph past r (head_ordered graph past r run known ordered) (run_settled graph past run.0 before_known before_ordered) best)
    (never_late graph past run.0 before_known before_ordered)
