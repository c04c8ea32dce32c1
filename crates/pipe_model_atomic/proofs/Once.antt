-- Each host is announced once: a decision announces hosts in rising number, and none that was announced.
use Rattle.std.proofs.Common.{◌≡◌, ◌≢◌, ℕ, zero, suc, ◌+◌, ◌≤◌, ◌==◌, ◌||◌, not, if◌then◌else◌, cond, Bool, true, false, List, [], ◌∷◌, ◌++◌, map, filter, Option, None, Some, refl, sym, ◌∙◌, true≢false, eq-eqb, arith}
use Rattle.std.specs.Prelude.{flat_map}
use Rattle.std.specs.List.{All, AllPairs, list_all, range_with_len}
use Rattle.std.proofs.lemmas.Bool.{and_parts, not-true}
use Rattle.std.proofs.lemmas.List.Elements.{All-append, All-cons, All-head, All-nil, All-tail, All-weaker}
use Rattle.std.proofs.lemmas.List.Kept.{AllPairs-cons}
use Rattle.pipe_base.specs.declared.control.Announced.{Announced}
use Rattle.pipe_base.specs.declared.name.HostId.{HostId}
use Rattle.pipe_base.specs.declared.name.Ts.{Ts}
use Rattle.pipe_base.specs.Failed.{is_announced}
use Rattle.pipe_graph.specs.Graph.{Graph}
use Rattle.pipe_model.specs.declared.record.Record.{Record}
use Rattle.pipe_model.specs.Controller.{view}
use Rattle.pipe_model.specs.Decision.{after_doom, can_go, due_hosts, host_id, newly_announced, time_at, with_time}
use Rattle.pipe_model.specs.View.{View, is_due}
use Rattle.pipe_model_atomic.specs.AnnouncedOnce.{AreAnnouncedOnce}
use Rattle.pipe_model_atomic.proofs.Announcing.{IsGoing, newly_going}
use Rattle.pipe_model_atomic.proofs.Views.{decision_after, told_view, untold, view_after}

-- the hosts rise from a number on
abbrev Rises : ℕ → List Announced → Type 0
Rises from [] = Unit {0}
Rises from (a ∷ later) = (from ≤ a.host.0) × Rises (a.host.0 + 1) later

rises_lower : (low high : ℕ) (xs : List Announced) → low ≤ high → Rises high xs → Rises low xs
rises_lower low high [] le rises = tt
rises_lower low high (a ∷ xs) le rises = (omega (arith, le, rises.0), rises.1)

-- all hosts that rise from a number on are above it, and all are different
rises_above : (from : ℕ) (xs : List Announced) → Rises from xs → All (λ a. from ≤ a.host.0) xs
rises_above from [] rises = All-nil (λ (a : Announced). from ≤ a.host.0)
rises_above from (a ∷ xs) rises =
    All-cons (λ (b : Announced). from ≤ b.host.0) a xs rises.0
    (All-weaker (λ (b : Announced). a.host.0 + 1 ≤ b.host.0) (λ (b : Announced). from ≤ b.host.0) (λ (b : Announced) le. omega (arith, le, rises.0)) xs
    (rises_above (a.host.0 + 1) xs rises.1))

abbrev Differ : Announced → Announced → Type 0
Differ a b = a.host.0 ≢ b.host.0

rising_differ : (from : ℕ) (xs : List Announced) → Rises from xs → AllPairs Differ xs
rising_differ from [] rises = λ i j d lt inside. absurd (omega (arith, inside))
rising_differ from (a ∷ xs) rises =
    AllPairs-cons Differ a xs
    (All-weaker (λ (b : Announced). a.host.0 + 1 ≤ b.host.0) (Differ a) (λ (b : Announced) le same. omega (arith, le, same)) xs (rises_above (a.host.0 + 1) xs rises.1))
    (rising_differ (a.host.0 + 1) xs rises.1)

-- ---- what is announced now rises

timed_rises : (from : ℕ) (h : HostId) (o : Option Ts) (later : List Announced) → from ≤ h.0 → Rises (h.0 + 1) later → Rises from (with_time h o ++ later)
timed_rises from h None later le rises = rises_lower from (h.0 + 1) later (omega (arith, le)) rises
timed_rises from h (Some time) later le rises = (le, rises)

abbrev told_of : Graph → View → List HostId → List Announced
told_of graph v hs = flat_map (λ h. with_time h (time_at graph v h.0)) hs

told_rises : (graph : Graph) (v : View) (from count : ℕ) → Rises from (told_of graph v (filter (λ h. is_due v h.0) (map host_id (range_with_len from count))))
told_rises graph v from zero = tt
told_rises graph v from (suc count) = by (is_due v from) (told_rises graph v (from + 1) count)
  where
    by : (b : Bool) → Rises (from + 1) (told_of graph v (filter (λ h. is_due v h.0) (map host_id (range_with_len (from + 1) count))))
        → Rises from (told_of graph v (cond b (host_id from ∷ filter (λ h. is_due v h.0) (map host_id (range_with_len (from + 1) count))) (filter (λ h. is_due v h.0) (map host_id (range_with_len (from + 1) count)))))
    by true rises =
        let rest : List Announced = told_of graph v (filter (λ h. is_due v h.0) (map host_id (range_with_len (from + 1) count))) in
        timed_rises from (host_id from) (time_at graph v from) rest (omega arith) (rises)
    by false rises = rises_lower from (from + 1) (told_of graph v (filter (λ h. is_due v h.0) (map host_id (range_with_len (from + 1) count)))) (omega arith) rises

newly_rises : (graph : Graph) (v : View) → Rises 0 (newly_announced graph v)
newly_rises graph v = by (list_all (λ h. can_go graph v h.0) (due_hosts graph v))
  where
    by : (b : Bool) → Rises 0 (if b then told_of graph v (due_hosts graph v) else [])
    by true = told_rises graph v 0 graph.hosts
    by false = tt

-- ---- and nobody again

-- who is not announced differs from all that are
apart : (host : ℕ) (xs : List Announced) → is_announced host xs ≡ false → All (λ a. a.host.0 ≢ host) xs
apart host [] isnt = All-nil (λ (a : Announced). a.host.0 ≢ host)
apart host (a ∷ xs) isnt = by (a.host.0 == host) refl isnt (apart host xs)
  where
    by : (b : Bool) → (a.host.0 == host) ≡ b → (b || is_announced host xs) ≡ false → (is_announced host xs ≡ false → All (λ c. c.host.0 ≢ host) xs) → All (λ c. c.host.0 ≢ host) (a ∷ xs)
    by true same never later = absurd (true≢false never)
    by false other none later =
        All-cons (λ (c : Announced). c.host.0 ≢ host) a xs (λ alike. true≢false (sym (eq-eqb a.host.0 host alike) ∙ other)) (later none)

pairs_tail : (a : Announced) (xs : List Announced) → AllPairs Differ (a ∷ xs) → AllPairs Differ xs
pairs_tail a xs pairs i j d lt inside = pairs (suc i) (suc j) d (omega (arith, lt)) (omega (arith, inside))

pairs_head : (a : Announced) (xs : List Announced) → AllPairs Differ (a ∷ xs) → All (Differ a) xs
pairs_head a xs pairs k d lt = pairs zero (suc k) d (omega arith) (omega (arith, lt))

both_differ : (xs ys : List Announced) → AllPairs Differ xs → AllPairs Differ ys → All (λ y. All (λ x. Differ x y) xs) ys → AllPairs Differ (xs ++ ys)
both_differ [] ys one other across = other
both_differ (x ∷ xs) ys one other across =
    AllPairs-cons Differ x (xs ++ ys)
    (All-append (Differ x) xs ys (pairs_head x xs one)
    (All-weaker (λ (y : Announced). All (λ (z : Announced). Differ z y) (x ∷ xs)) (Differ x) (λ (y : Announced) all. All-head (λ (z : Announced). Differ z y) x xs all) ys across))
    (both_differ xs ys (pairs_tail x xs one) other
    (All-weaker (λ (y : Announced). All (λ (z : Announced). Differ z y) (x ∷ xs)) (λ (y : Announced). All (λ (z : Announced). Differ z y) xs)
    (λ (y : Announced) all. All-tail (λ (z : Announced). Differ z y) x xs all) ys across))

going_new : (graph : Graph) (v : View) (host : ℕ) (time : Ts) → IsGoing graph v host time → is_announced host v.announced ≡ false
going_new graph v host time going = not-true (is_announced host v.announced) (and_parts (v.doomed host) (not (is_announced host v.announced)) going.due).1

once_more : (graph : Graph) (v : View) → AllPairs Differ v.announced → AllPairs Differ (v.announced ++ newly_announced graph v)
once_more graph v before =
    both_differ v.announced (newly_announced graph v) before (rising_differ 0 (newly_announced graph v) (newly_rises graph v))
    (All-weaker (λ (a : Announced). IsGoing graph v a.host.0 a.time) (λ (a : Announced). All (λ (b : Announced). Differ b a) v.announced)
    (λ (a : Announced) going. apart a.host.0 v.announced (going_new graph v a.host.0 a.time going)) (newly_announced graph v) (newly_going graph v))

pub keeps_announced_once : (graph : Graph) (past : List Record) (r : Record) → AreAnnouncedOnce graph past → AreAnnouncedOnce graph (r ∷ past)
keeps_announced_once graph past r before =
    let v : View = view graph past in
    let P : View → Type 0 = λ w. AllPairs Differ w.announced in
    let more : P (told_view graph v) = once_more graph (after_doom graph v) before in
    view_after P graph r.event r.took r.step.outcome v (untold P v r.took (λ link value. before) (λ host count. before) (λ node count. before))
    (λ decides. decision_after P graph v more (λ over. more)) before
