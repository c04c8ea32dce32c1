-- What a host held and its barrier passed is in its log: it was held in time, and the record that passed it logged it.
use Rattle.std.proofs.Common.{◌≡◌, ℕ, ◌<◌, ◌≤◌, not, nat_le, nat_lt, if◌then◌else◌, Bool, true, false, List, [], ◌∷◌, Option, None, Some, refl, inl, inr, sym, ap, subst, ◌∙◌, arith, lt-ltb, le-leb}
use Rattle.std.specs.List.{All, Contains}
use Rattle.std.specs.Ordering.{match_ordering}
use Rattle.std.specs.declared.cmp.Ordering.{Ordering}
use Rattle.std.specs.declared.cmp.Ordering.TheVariants.{Less, Equal, Greater}
use Rattle.std.proofs.lemmas.Bool.{cases_lt, or_parts, true≢false}
use Rattle.std.proofs.lemmas.Bool.Decides.{nat_tests}
use Rattle.std.proofs.lemmas.List.Elements.{All-nil, All-cons, All-head, All-tail, All-contains_itself, Contains-append_left, Contains-append_right}
use Rattle.pipe_base.specs.declared.control.Announced.{Announced}
use Rattle.pipe_base.specs.declared.message.Entry.{Entry}
use Rattle.pipe_base.specs.declared.message.Key.{Key}
use Rattle.pipe_base.specs.declared.message.Service.{Service}
use Rattle.pipe_base.specs.declared.message.Service.TheVariants.{BestEffort, Reliable}
use Rattle.pipe_base.specs.declared.name.Ts.{Ts}
use Rattle.pipe_base.specs.declared.packet.Packet.{Packet}
use Rattle.pipe_base.specs.declared.step.Fate.{Fate}
use Rattle.pipe_base.specs.declared.step.Fate.TheVariants.{Held, Repeat, Late, Discarded, Recalled}
use Rattle.pipe_base.specs.Failed.{is_void, time_of, without_void}
use Rattle.pipe_base.specs.Fate.{fate_from, fate_of}
use Rattle.pipe_base.specs.Messages.{Messages, entry_of, from_barrier, has_key, key_cmp, same_key, with_message}
use Rattle.pipe_base.proofs.KeyOrder.{equal_same}
use Rattle.pipe_base.proofs.MessageLaws.{same_key-refl}
use Rattle.pipe_graph.specs.Graph.{Graph}
use Rattle.pipe_graph.proofs.Listed.{filter_all}
use Rattle.pipe_model.specs.declared.record.Record.{Record}
use Rattle.pipe_model.specs.Fate.{failed_for, fate_for, fate_in, held, plane_of, recalled_for, with_held}
use Rattle.pipe_model.specs.Got.{got, key_of}
use Rattle.pipe_model.specs.Logged.{entries_of, log, passed_in, standing}
use Rattle.pipe_model.specs.Moments.{barrier_at, noted_hosts}
use Rattle.pipe_model.specs.Run.{IsNodeHistory, IsNodeStep}
use Rattle.pipe_model.proofs.Recalls.{not_recalled_before}
use Rattle.pipe_model.proofs.Void.{not_void_before}
use Rattle.pipe_model_runs.specs.Holding.{IsReceipt, WasHeld}
use Rattle.pipe_model_runs.proofs.Lists.{All-from_map}
use Rattle.pipe_model_runs.proofs.LoggedHeld.{entries_passed}

-- ---- a message that is held is in time, and new

new_among : (recalled has : Bool) → (if recalled then Recalled else if has then Repeat else Held) ≡ Held → has ≡ false
new_among true has is = cc
new_among false true is = cc
new_among false false is = refl

new_unless : (void recalled has : Bool) (time : Ts) → (if void then Discarded time else if recalled then Recalled else if has then Repeat else Held) ≡ Held → has ≡ false
new_unless true recalled has time is = cc
new_unless false recalled has time is = new_among recalled has is

new_from : (failed : Option Ts) (recalled : Bool) (ms : Messages) (key : Key) → fate_from failed recalled ms key ≡ Held → has_key key ms ≡ false
new_from None recalled ms key is = new_among recalled (has_key key ms) is
new_from (Some time) recalled ms key is = new_unless (nat_le time.0 key.ts.0) recalled (has_key key ms) time is

new_in_time : (late : Bool) (barrier : ℕ) (failed : Option Ts) (recalled : Bool) (ms : Messages) (key : Key)
    → (if late then Late (record { 0 = barrier }) else fate_from failed recalled ms key) ≡ Held → (late ≡ false) × (has_key key ms ≡ false)
new_in_time true barrier failed recalled ms key is = cc
new_in_time false barrier failed recalled ms key is = (refl, new_from failed recalled ms key is)

is_new : (barrier : ℕ) (failed : Option Ts) (recalled : Bool) (ms : Messages) (key : Key) → fate_of barrier failed recalled ms key ≡ Held
    → (nat_lt key.ts.0 barrier ≡ false) × (has_key key ms ≡ false)
is_new barrier failed recalled ms key is = new_in_time (nat_lt key.ts.0 barrier) barrier failed recalled ms key is

-- ---- what holds of all that is held holds of each message that was held

given_by : (P : Key × List ℕ → Type 0) (k : Key) (v : List ℕ) (m : Key × List ℕ) (ms : Messages) (o : Ordering) → key_cmp k m.0 ≡ o
    → (All P (with_message k v ms) → P (k, v) × (has_key k ms ≡ false → All P ms))
    → All P (match_ordering o ((k, v) ∷ m ∷ ms) ((m.0, v) ∷ ms) (m ∷ with_message k v ms)) → P (k, v) × (has_key k (m ∷ ms) ≡ false → All P (m ∷ ms))
given_by P k v m ms Less is rest all = (All-head P (k, v) (m ∷ ms) all, λ none. All-tail P (k, v) (m ∷ ms) all)
given_by P k v m ms Equal is rest all =
    let same : k ≡ m.0 = equal_same k m.0 is in (
      subst (λ (x : Key). P (x, v)) (sym same) (All-head P (m.0, v) ms all),
      λ none. absurd (true≢false (sym (subst (λ (x : Key). same_key x k ≡ true) same (same_key-refl k)) ∙ (or_parts (same_key m.0 k) (has_key k ms) none).0)),
    )
given_by P k v m ms Greater is rest all =
    let more = rest (All-tail P m (with_message k v ms) all) in
    (more.0, λ none. All-cons P m ms (All-head P m (with_message k v ms) all) (more.1 (or_parts (same_key m.0 k) (has_key k ms) none).1))

given : (P : Key × List ℕ → Type 0) (k : Key) (v : List ℕ) (ms : Messages) → All P (with_message k v ms) → P (k, v) × (has_key k ms ≡ false → All P ms)
given P k v [] all = (All-head P (k, v) [] all, λ none. All-nil P)
given P k v (m ∷ ms) all = given_by P k v m ms (key_cmp k m.0) refl (given P k v ms) all

kept_by : (P : Key × List ℕ → Type 0) (f : Fate) (p : Packet) (ms : Messages) → (f ≡ Held → has_key (key_of p) ms ≡ false) → All P (with_held (Some f) (Some p) ms) → All P ms
kept_by P Held p ms new all = (given P (key_of p) p.body ms all).1 (new refl)
kept_by P _ p ms new all = all

kept : (P : Key × List ℕ → Type 0) (barrier : ℕ) (failed : List Announced) (recalled : Key → Bool) (o : Option Packet) (ms : Messages)
    → All P (with_held (fate_for barrier failed recalled ms o) o ms) → All P ms
kept P barrier failed recalled None ms all = all
kept P barrier failed recalled (Some p) ms all =
    let failing : Option Ts = time_of p.src.0 failed in
    kept_by P (fate_of barrier failing (recalled (key_of p)) ms (key_of p)) p ms (λ is. (is_new barrier failing (recalled (key_of p)) ms (key_of p) is).1) all

holds_of : (service : Service) (graph : Graph) (node : ℕ) (own : List Record) (P : Key × List ℕ → Type 0) → All P (held service graph node own)
    → (entry : Entry) → WasHeld service graph node entry own → P (entry.key, entry.body)
holds_of service graph node [] P all entry was = absurd was
holds_of service graph node (r ∷ own) P all entry (inl here) =
    let p : Packet = here.packet in
    let ms : Messages = held service graph node own in
    let brought : All P (with_held (fate_in service graph node own r) (Some p) ms) = subst (λ (o : Option Packet). All P (with_held (fate_in service graph node own r) o ms)) here.received all in
    let grown : All P (with_message (key_of p) p.body ms) = subst (λ (f : Option Fate). All P (with_held f (Some p) ms)) here.is_held brought in
    subst (λ (e : Entry). P (e.key, e.body)) here.message (given P (key_of p) p.body ms grown).0
holds_of service graph node (r ∷ own) P all entry (inr before) =
    holds_of service graph node own P
    (kept P (barrier_at (plane_of service) graph node own) (failed_for service own) (recalled_for service graph node own) (got service graph node own r) (held service graph node own) all)
    entry before

-- ---- the record that passes a message logs it

passed_now : (service : Service) (graph : Graph) (node : ℕ) (own : List Record) (r : Record) (entry : Entry) → IsNodeStep graph node own r
    → WasHeld service graph node entry (r ∷ own) → is_void (failed_for service (r ∷ own)) entry.key ≡ false → recalled_for service graph node (r ∷ own) entry.key ≡ false
    → barrier_at (plane_of service) graph node own ≤ entry.key.ts.0 → entry.key.ts.0 < barrier_at (plane_of service) graph node (r ∷ own)
    → Contains (entries_of service r.step.logged) entry
passed_now service graph node own r entry step was stays wanted low passed =
    let now : List Record = r ∷ own in
    let before : ℕ = barrier_at (plane_of service) graph node own in
    let after : ℕ = barrier_at (plane_of service) graph node now in
    let es : List Entry = entries_of service r.step.logged in
    let Logs : Key × List ℕ → Type 0 = λ m. Contains es (entry_of m) in
    let Below : Key × List ℕ → Type 0 = λ m. nat_lt m.0.ts.0 after ≡ true → Logs m in
    let From : Key × List ℕ → Type 0 = λ m. nat_le before m.0.ts.0 ≡ true → Below m in
    let Wanted : Key × List ℕ → Type 0 = λ m. not (recalled_for service graph node now m.0) ≡ true → From m in
    let Stays : Key × List ℕ → Type 0 = λ m. not (is_void (failed_for service now) m.0) ≡ true → Wanted m in
    let all : Messages = held service graph node now in
    let logs : All Logs (passed_in service graph node own r) = All-from_map (Contains es) entry_of (passed_in service graph node own r) (subst (All (Contains es)) (entries_passed service graph node own r step) (All-contains_itself es)) in
    let below : All Below (from_barrier before (standing service graph node now)) = filter_all _ Logs _ logs in
    let from : All From (standing service graph node now) = filter_all _ Below _ below in
    let valid : All Wanted (without_void (failed_for service now) all) = filter_all _ From _ from in
    let stand : All Stays all = filter_all _ Wanted _ valid in
    holds_of service graph node now Stays stand entry was (ap not stays) (ap not wanted) (le-leb before entry.key.ts.0 low) (lt-ltb entry.key.ts.0 after passed)

-- ---- along the node's records

some_fate : (f g : Fate) → Some f ≡ Some g → f ≡ g
some_fate f g is = cc

at_least : (barrier ts : ℕ) → nat_lt ts barrier ≡ false → barrier ≤ ts
at_least barrier ts isnt = grind (arith, nat_tests, isnt)

in_time : (service : Service) (graph : Graph) (node : ℕ) (own : List Record) (r : Record) (entry : Entry) → IsReceipt service graph node own r entry
    → barrier_at (plane_of service) graph node own ≤ entry.key.ts.0
in_time service graph node own r entry here =
    let p : Packet = here.packet in
    let barrier : ℕ = barrier_at (plane_of service) graph node own in
    let failed : List Announced = failed_for service own in
    let recalled : Key → Bool = recalled_for service graph node own in
    let ms : Messages = held service graph node own in
    let kept : fate_for barrier failed recalled ms (Some p) ≡ Some Held = ap (fate_for barrier failed recalled ms) (sym here.received) ∙ here.is_held in
    let new = is_new barrier (time_of p.src.0 failed) (recalled (key_of p)) ms (key_of p) (some_fate _ _ kept) in
    subst (λ (e : Entry). barrier ≤ e.key.ts.0) here.message (at_least barrier p.ts.0 new.0)

stays_before : (service : Service) (own : List Record) (r : Record) (key : Key) → is_void (failed_for service (r ∷ own)) key ≡ false → is_void (failed_for service own) key ≡ false
stays_before BestEffort own r key isnt = isnt
stays_before Reliable own r key isnt = not_void_before (noted_hosts own) r.step.noted key isnt

wanted_before : (service : Service) (graph : Graph) (node : ℕ) (own : List Record) (r : Record) (key : Key) → recalled_for service graph node (r ∷ own) key ≡ false
    → recalled_for service graph node own key ≡ false
wanted_before BestEffort graph node own r key isnt = isnt
wanted_before Reliable graph node own r key isnt = not_recalled_before graph node key own r isnt

pub passed_logged : (service : Service) (graph : Graph) (node : ℕ) (own : List Record) (entry : Entry) → IsNodeHistory graph node own
    → WasHeld service graph node entry own → is_void (failed_for service own) entry.key ≡ false → recalled_for service graph node own entry.key ≡ false
    → entry.key.ts.0 < barrier_at (plane_of service) graph node own → Contains (log service own) entry
passed_logged service graph node [] entry history was stays wanted passed = absurd was
passed_logged service graph node (r ∷ own) entry history was stays wanted passed =
    let es : List Entry = entries_of service r.step.logged in
    elim (cases_lt entry.key.ts.0 (barrier_at (plane_of service) graph node own)) [
      | inl early ↦ Contains-append_left (log service own) es entry
          (passed_logged service graph node own entry history.0 (earlier was early) (stays_before service own r entry.key stays) (wanted_before service graph node own r entry.key wanted) early)
      | inr low ↦ Contains-append_right (log service own) es entry (passed_now service graph node own r entry history.1 was stays wanted low passed)
    ]
  where
    earlier : WasHeld service graph node entry (r ∷ own) → entry.key.ts.0 < barrier_at (plane_of service) graph node own → WasHeld service graph node entry own
    earlier (inl here) early = let low = in_time service graph node own r entry here in absurd (omega (arith, low, early))
    earlier (inr before) early = before
