-- What a host held and its barrier passed is in its log: held while the barrier was not above it, logged by the record that passed it.
use Rattle.std.proofs.Common.{◌≡◌, ◌⊎◌, ℕ, ◌<◌, ◌≤◌, ◌==◌, ◌||◌, nat_lt, if◌then◌else◌, Bool, true, false, List, [], ◌∷◌, Option, None, Some, map, refl, inl, inr, sym, ap, ◌∙◌, arith, eqb-true, cond}
use Rattle.std.specs.List.{list_any}
use Rattle.std.proofs.lemmas.Bool.{and_parts, cases_lt, or_cases, or_left, or_right}
use Rattle.std.proofs.lemmas.Bool.Decides.{nat_tests}
use Rattle.std.proofs.lemmas.List.Folds.{list_any-append}
use Rattle.pipe_base.specs.declared.control.Announced.{Announced}
use Rattle.pipe_base.specs.declared.message.Key.{Key}
use Rattle.pipe_base.specs.declared.message.Entry.{Entry}
use Rattle.pipe_base.specs.declared.message.Service.TheVariants.{Reliable}
use Rattle.pipe_base.specs.declared.name.Ts.{Ts}
use Rattle.pipe_base.specs.declared.packet.Packet.{Packet}
use Rattle.pipe_base.specs.declared.packet.Plane.TheVariants.{Commit}
use Rattle.pipe_base.specs.declared.step.Fate.{Fate}
use Rattle.pipe_base.specs.declared.step.Fate.TheVariants.{Held, Late}
use Rattle.pipe_base.specs.Failed.{is_void, time_of, without_void}
use Rattle.pipe_base.specs.Fate.{fate_from}
use Rattle.pipe_graph.specs.Graph.{Graph}
use Rattle.pipe_base.specs.Messages.{Messages, below_barrier, entry_of, from_barrier, has_key, same_key}
use Rattle.pipe_base.proofs.MessageLaws.{has_from, has_with}
use Rattle.pipe_model.specs.declared.record.Record.{Record}
use Rattle.pipe_model.specs.AllOrNone.{has_logged}
use Rattle.pipe_model.specs.Fate.{fate_for, held, with_held}
use Rattle.pipe_model.specs.Got.{got, key_of}
use Rattle.pipe_model.specs.Logged.{entries_of, log, passed_in, standing}
use Rattle.pipe_model.specs.Moments.{barrier_at, noted_hosts}
use Rattle.pipe_model.specs.Recalls.{got_recall}
use Rattle.pipe_model.specs.Run.{IsNodeHistory, IsNodeStep}
use Rattle.pipe_model.proofs.Entries.{entries_logged}
use Rattle.pipe_model.proofs.Recalls.{not_recalled_before, recall_of_keys}
use Rattle.pipe_model.proofs.Void.{has_without, has_without_keys, not_void_before}

-- ---- what is below the barrier is not held anew

at_least : (barrier ts : ℕ) → nat_lt ts barrier ≡ false → barrier ≤ ts
at_least barrier ts isnt = grind (arith, nat_tests, isnt)

-- with whatever fate a message came, what is held now is it, or was held before
held_any : (f : Option Fate) (p : Packet) (key : Key) (ms : Messages) → has_key key (with_held f (Some p) ms) ≡ true
    → (same_key (key_of p) key ≡ true) ⊎ (has_key key ms ≡ true)
held_any (Some Held) p key ms has = or_cases (same_key (key_of p) key) (has_key key ms) (sym (has_with (key_of p) p.body key ms) ∙ has)
held_any _ p key ms has = inr has

held_by : (late : Bool) (barrier : ℕ) (failed : Option Ts) (recalled : Bool) (p : Packet) (key : Key) (ms : Messages) → nat_lt p.ts.0 barrier ≡ late → key.ts.0 < barrier
    → has_key key (with_held (Some (if late then Late (record { 0 = barrier }) else fate_from failed recalled ms (key_of p))) (Some p) ms) ≡ true
    → has_key key ms ≡ true
held_by true barrier failed recalled p key ms in_time early has = has
held_by false barrier failed recalled p key ms in_time early has =
    elim (held_any (Some (fate_from failed recalled ms (key_of p))) p key ms has) [
      | inl same ↦
          let time : p.ts.0 ≡ key.ts.0 = eqb-true p.ts.0 key.ts.0 (and_parts (p.ts.0 == key.ts.0) (p.src.0 == key.src.0) same).0 in
          let low : barrier ≤ p.ts.0 = at_least barrier p.ts.0 in_time in
          absurd (omega (arith, time, low, early))
      | inr before ↦ before
    ]

held_before : (barrier : ℕ) (failed : List Announced) (recalled : Key → Bool) (o : Option Packet) (key : Key) (ms : Messages) → key.ts.0 < barrier
    → has_key key (with_held (fate_for barrier failed recalled ms o) o ms) ≡ true → has_key key ms ≡ true
held_before barrier failed recalled None key ms early has = has
held_before barrier failed recalled (Some p) key ms early has =
    held_by (nat_lt p.ts.0 barrier) barrier (time_of p.src.0 failed) (recalled (key_of p)) p key ms refl early has

-- ---- what the record passes is in its log

passed_first : (below : Bool) (barrier : ℕ) (key : Key) (m : Key × List ℕ) (ms : Messages) → nat_lt m.0.ts.0 barrier ≡ below → key.ts.0 < barrier
    → same_key m.0 key ≡ true → has_key key (cond below (m ∷ ms) ms) ≡ true
passed_first true barrier key m ms is early same = or_left (same_key m.0 key) (has_key key ms) same
passed_first false barrier key m ms is early same =
    let time : m.0.ts.0 ≡ key.ts.0 = eqb-true m.0.ts.0 key.ts.0 (and_parts (m.0.ts.0 == key.ts.0) (m.0.src.0 == key.src.0) same).0 in
    let low : barrier ≤ m.0.ts.0 = at_least barrier m.0.ts.0 is in
    absurd (omega (arith, time, low, early))

passed_rest : (below : Bool) (key : Key) (m : Key × List ℕ) (ms : Messages) → has_key key ms ≡ true → has_key key (cond below (m ∷ ms) ms) ≡ true
passed_rest true key m ms has = or_right (same_key m.0 key) (has_key key ms) has
passed_rest false key m ms has = has

has_below : (barrier : ℕ) (key : Key) (ms : Messages) → key.ts.0 < barrier → has_key key ms ≡ true → has_key key (below_barrier barrier ms) ≡ true
has_below barrier key [] early has = has
has_below barrier key (m ∷ ms) early has =
    elim (or_cases (same_key m.0 key) (has_key key ms) has) [
      | inl same ↦ passed_first (nat_lt m.0.ts.0 barrier) barrier key m (below_barrier barrier ms) refl early same
      | inr later ↦ passed_rest (nat_lt m.0.ts.0 barrier) key m (below_barrier barrier ms) (has_below barrier key ms early later)
    ]

-- some entry has the key
abbrev pub has_entry : Key → List Entry → Bool
has_entry key es = list_any (λ e. same_key e.key key) es

pub has_entries : (key : Key) (ms : Messages) → has_entry key (map entry_of ms) ≡ has_key key ms
has_entries key [] = refl
has_entries key (m ∷ ms) = ap (λ (b : Bool). same_key m.0 key || b) (has_entries key ms)

-- a message that is held, not void and not taken back stands
stands_now : (graph : Graph) (node : ℕ) (own : List Record) (key : Key) → has_key key (held Reliable graph node own) ≡ true → got_recall graph node key own ≡ false
    → is_void (noted_hosts own) key ≡ false → has_key key (standing Reliable graph node own) ≡ true
stands_now graph node own key has wanted stays =
    let ms : Messages = held Reliable graph node own in
    has_without_keys (λ (k : Key). got_recall graph node k own) key (without_void (noted_hosts own) ms) (recall_of_keys graph node own) wanted
    (has_without (noted_hosts own) key ms stays has)

passed_now : (graph : Graph) (node : ℕ) (own : List Record) (r : Record) (key : Key) → IsNodeStep graph node own r
    → barrier_at Commit graph node own ≤ key.ts.0 → key.ts.0 < barrier_at Commit graph node (r ∷ own) → has_key key (standing Reliable graph node (r ∷ own)) ≡ true
    → has_entry key (entries_of Reliable r.step.logged) ≡ true
passed_now graph node own r key step low passed stands =
    let ms : Messages = standing Reliable graph node (r ∷ own) in
    let before : ℕ = barrier_at Commit graph node own in
    let after : ℕ = barrier_at Commit graph node (r ∷ own) in
    ap (has_entry key) (ap (entries_of Reliable) step.logged_is ∙ entries_logged Reliable graph node own r)
    ∙ has_entries key (passed_in Reliable graph node own r)
    ∙ has_below after key (from_barrier before ms) passed (has_from before key ms low ∙ stands)

-- ---- along the node's records

logged_either : (key : Key) (own : List Record) (r : Record) → (has_logged key own ≡ true) ⊎ (has_entry key (entries_of Reliable r.step.logged) ≡ true)
    → has_logged key (r ∷ own) ≡ true
logged_either key own r (inl before) =
    list_any-append (λ (e : Entry). same_key e.key key) (log Reliable own) (entries_of Reliable r.step.logged)
    ∙ or_left (has_logged key own) (has_entry key (entries_of Reliable r.step.logged)) before
logged_either key own r (inr now) =
    list_any-append (λ (e : Entry). same_key e.key key) (log Reliable own) (entries_of Reliable r.step.logged)
    ∙ or_right (has_logged key own) (has_entry key (entries_of Reliable r.step.logged)) now

pub passed_logged : (graph : Graph) (node : ℕ) (own : List Record) (key : Key) → IsNodeHistory graph node own → has_key key (held Reliable graph node own) ≡ true
    → got_recall graph node key own ≡ false → is_void (noted_hosts own) key ≡ false → key.ts.0 < barrier_at Commit graph node own → has_logged key own ≡ true
passed_logged graph node [] key history has wanted stays passed = absurd (omega (arith, passed))
passed_logged graph node (r ∷ own) key history has wanted stays passed =
    let before : ℕ = barrier_at Commit graph node own in
    logged_either key own r
    (elim (cases_lt key.ts.0 before) [
      | inl early ↦ inl (passed_logged graph node own key history.0
          (held_before before (noted_hosts own) (λ k. got_recall graph node k own) (got Reliable graph node own r) key (held Reliable graph node own) early has)
          (not_recalled_before graph node key own r wanted) (not_void_before (noted_hosts own) r.step.noted key stays) early)
      | inr low ↦ inr (passed_now graph node own r key history.1 low passed (stands_now graph node (r ∷ own) key has wanted stays))
    ])
