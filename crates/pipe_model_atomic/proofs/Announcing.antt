-- Whom a decision announces: hosts that are due, each of which is cut off from all that are kept, with its failure time; and if
-- anybody, then all that are due.
use Rattle.std.proofs.Common.{◌≡◌, ◌⊎◌, inl, inr, ℕ, zero, suc, ◌<◌, ◌==◌, ◌&&◌, ◌||◌, not, if◌then◌else◌, cond, Bool, true, false, List, [], ◌∷◌, length, map, filter, get_or, Option, None, Some, refl, sym, ap, ◌∙◌, subst, eqb-true, eq-eqb, true≢false, arith}
use Rattle.std.specs.Prelude.{flat_map, is_some}
use Rattle.std.specs.List.{All, list_all, list_any, range_with_len}
use Rattle.std.proofs.lemmas.Bool.{and_parts, or_cases, or_left, or_right}
use Rattle.std.proofs.lemmas.List.Elements.{All-append, All-cons, All-filter, All-from_get_or, All-head, All-map, All-nil, All-tail, filter_passes}
use Rattle.std.proofs.lemmas.List.Folds.{list_any-append}
use Rattle.std.proofs.lemmas.List.FromFn.{get_or-map-range_with_len, get_or-range_with_len, length-map-range_with_len, length-range_with_len}
use Rattle.std.proofs.lemmas.List.Sums.{AllPass-from_list_all}
use Rattle.pipe_base.specs.declared.control.Announced.{Announced}
use Rattle.pipe_base.specs.declared.name.HostId.{HostId}
use Rattle.pipe_base.specs.declared.name.Ts.{Ts}
use Rattle.pipe_graph.specs.Cut.{is_cut}
use Rattle.pipe_graph.specs.FailureTime.{failure_time}
use Rattle.pipe_base.specs.Failed.{is_announced, time_of}
use Rattle.pipe_graph.specs.Graph.{Graph}
use Rattle.pipe_model.specs.Decision.{all_hosts, all_over, can_go, due_hosts, host_id, is_over, newly_announced, time_at, with_time}
use Rattle.pipe_model.specs.View.{View, intact, is_due, is_kept}

-- a host that can be announced, with its time
pub record IsGoing (graph : Graph) (v : View) (host : ℕ) (time : Ts) : Type 0 where
  pub host_in : host < graph.hosts
  pub due : is_due v host ≡ true
  pub cut : is_cut graph (intact v) (is_kept v) host ≡ true
  pub time_is : failure_time graph v.live v.reports host ≡ Some time

all_below : (n : ℕ) → All (λ h. h.0 < n) (map host_id (range_with_len 0 n))
all_below n =
    All-map (λ (h : HostId). h.0 < n) host_id (range_with_len 0 n)
    (All-from_get_or (λ (k : ℕ). k < n) (range_with_len 0 n) 0
    (λ i lt. let size = length-range_with_len 0 n in let at = get_or-range_with_len 0 n i 0 (omega arith) in omega arith))

-- ---- all that are announced are due and can go

-- a due host, which can go if it is asked for
abbrev IsAsked : Graph → View → HostId → Type 0
IsAsked graph v h = (h.0 < graph.hosts) × (is_due v h.0 ≡ true) × (can_go graph v h.0 ≡ true)

one_going : (graph : Graph) (v : View) (h : HostId) (o : Option Ts) → IsAsked graph v h → time_at graph v h.0 ≡ o
    → All (λ a. IsGoing graph v a.host.0 a.time) (with_time h o)
one_going graph v h None asked is = All-nil (λ (a : Announced). IsGoing graph v a.host.0 a.time)
one_going graph v h (Some time) asked is =
    let cut = (and_parts (is_cut graph (intact v) (is_kept v) h.0) (is_some (time_at graph v h.0)) asked.2).0 in
    All-cons (λ (a : Announced). IsGoing graph v a.host.0 a.time) (record { host = h; time = time }) []
    (record { host_in = asked.0; due = asked.1; cut = cut; time_is = is }) (All-nil (λ (a : Announced). IsGoing graph v a.host.0 a.time))

each_going : (graph : Graph) (v : View) (hs : List HostId) → All (IsAsked graph v) hs → All (λ a. IsGoing graph v a.host.0 a.time) (flat_map (λ h. with_time h (time_at graph v h.0)) hs)
each_going graph v [] all = All-nil (λ (a : Announced). IsGoing graph v a.host.0 a.time)
each_going graph v (h ∷ hs) all =
    All-append (λ (a : Announced). IsGoing graph v a.host.0 a.time) (with_time h (time_at graph v h.0)) (flat_map (λ k. with_time k (time_at graph v k.0)) hs)
    (one_going graph v h (time_at graph v h.0) (All-head (IsAsked graph v) h hs all) refl) (each_going graph v hs (All-tail (IsAsked graph v) h hs all))

asked_all : (graph : Graph) (v : View) → list_all (λ h. can_go graph v h.0) (due_hosts graph v) ≡ true → All (IsAsked graph v) (due_hosts graph v)
asked_all graph v can k d lt = (
  All-filter (λ (h : HostId). is_due v h.0) (λ (h : HostId). h.0 < graph.hosts) (all_hosts graph) (all_below graph.hosts) k d lt,
  filter_passes (λ (h : HostId). is_due v h.0) (all_hosts graph) k d lt,
  AllPass-from_list_all (λ (h : HostId). can_go graph v h.0) (due_hosts graph v) can k d lt,
)

pub newly_going : (graph : Graph) (v : View) → All (λ a. IsGoing graph v a.host.0 a.time) (newly_announced graph v)
newly_going graph v = by (list_all (λ h. can_go graph v h.0) (due_hosts graph v)) refl
  where
    by : (b : Bool) → list_all (λ h. can_go graph v h.0) (due_hosts graph v) ≡ b
        → All (λ a. IsGoing graph v a.host.0 a.time) (if b then flat_map (λ h. with_time h (time_at graph v h.0)) (due_hosts graph v) else [])
    by true can = each_going graph v (due_hosts graph v) (asked_all graph v can)
    by false cannot = All-nil (λ (a : Announced). IsGoing graph v a.host.0 a.time)

-- ---- if anybody is announced, then all that are due are

timed_one : (h : HostId) (o : Option Ts) → is_some o ≡ true → is_announced h.0 (with_time h o) ≡ true
timed_one h None is = absurd (true≢false (sym is))
timed_one h (Some time) is = or_left (h.0 == h.0) false (eq-eqb h.0 h.0 refl)

abbrev CanGo : Graph → View → HostId → Type 0
CanGo graph v h = can_go graph v h.0 ≡ true

each_told : (graph : Graph) (v : View) (host : ℕ) (hs : List HostId) → All (CanGo graph v) hs → list_any (λ h. h.0 == host) hs ≡ true
    → is_announced host (flat_map (λ h. with_time h (time_at graph v h.0)) hs) ≡ true
each_told graph v host [] all has = absurd (true≢false (sym has))
each_told graph v host (h ∷ hs) all has =
    list_any-append (λ (a : Announced). a.host.0 == host) (with_time h (time_at graph v h.0)) (flat_map (λ k. with_time k (time_at graph v k.0)) hs)
    ∙ elim (or_cases (h.0 == host) (list_any (λ k. k.0 == host) hs) has) [
      | inl here ↦
          let timed : is_some (time_at graph v h.0) ≡ true =
          (and_parts (is_cut graph (intact v) (is_kept v) h.0) (is_some (time_at graph v h.0)) (All-head (CanGo graph v) h hs all)).1 in
          or_left (is_announced host (with_time h (time_at graph v h.0))) (is_announced host (flat_map (λ k. with_time k (time_at graph v k.0)) hs))
          (subst (λ (n : ℕ). is_announced n (with_time h (time_at graph v h.0)) ≡ true) (eqb-true h.0 host here) (timed_one h (time_at graph v h.0) timed))
      | inr later ↦
          or_right (is_announced host (with_time h (time_at graph v h.0))) (is_announced host (flat_map (λ k. with_time k (time_at graph v k.0)) hs))
          (each_told graph v host hs (All-tail (CanGo graph v) h hs all) later)
    ]

-- a host of a list that passes a test is among those that the test leaves
left_in : (p : ℕ → Bool) (host : ℕ) (hs : List HostId) → list_any (λ h. h.0 == host) hs ≡ true → p host ≡ true → list_any (λ h. h.0 == host) (filter (λ h. p h.0) hs) ≡ true
left_in p host [] has is = absurd (true≢false (sym has))
left_in p host (h ∷ hs) has is = by (p h.0) refl (or_cases (h.0 == host) (list_any (λ k. k.0 == host) hs) has) (λ later. left_in p host hs later is)
  where
    by : (b : Bool) → p h.0 ≡ b → ((h.0 == host) ≡ true) ⊎ (list_any (λ k. k.0 == host) hs ≡ true)
        → (list_any (λ k. k.0 == host) hs ≡ true → list_any (λ k. k.0 == host) (filter (λ k. p k.0) hs) ≡ true)
        → list_any (λ k. k.0 == host) (cond b (h ∷ filter (λ k. p k.0) hs) (filter (λ k. p k.0) hs)) ≡ true
    by true passes (inl here) more = or_left (h.0 == host) (list_any (λ k. k.0 == host) (filter (λ k. p k.0) hs)) here
    by true passes (inr later) more = or_right (h.0 == host) (list_any (λ k. k.0 == host) (filter (λ k. p k.0) hs)) (more later)
    by false fails (inl here) more = absurd (true≢false (sym is ∙ ap p (sym (eqb-true h.0 host here)) ∙ fails))
    by false fails (inr later) more = more later

has_at : (host : ℕ) (hs : List HostId) (k : ℕ) (d : HostId) → k < length hs → (get_or hs k d).0 ≡ host → list_any (λ h. h.0 == host) hs ≡ true
has_at host [] k d lt is = absurd (omega arith)
has_at host (h ∷ hs) zero d lt is = or_left (h.0 == host) (list_any (λ k. k.0 == host) hs) (eq-eqb h.0 host is)
has_at host (h ∷ hs) (suc k) d lt is = or_right (h.0 == host) (list_any (λ k. k.0 == host) hs) (has_at host hs k d (omega arith) is)

among_all : (graph : Graph) (host : ℕ) → host < graph.hosts → list_any (λ h. h.0 == host) (all_hosts graph) ≡ true
among_all graph host lt =
    let at : get_or (map host_id (range_with_len 0 graph.hosts)) host (host_id 0) ≡ host_id host = get_or-map-range_with_len host_id 0 graph.hosts host host (host_id 0) lt (omega arith) in
    let size = length-map-range_with_len host_id 0 graph.hosts in
    has_at host (all_hosts graph) host (host_id 0) (omega arith) (ap (λ (h : HostId). h.0) at)

pub all_due_going : (graph : Graph) (v : View) (host other : ℕ) (time : Ts) → time_of host (newly_announced graph v) ≡ Some time
    → other < graph.hosts → is_due v other ≡ true → is_announced other (newly_announced graph v) ≡ true
all_due_going graph v host other time some other_in due = by (list_all (λ h. can_go graph v h.0) (due_hosts graph v)) refl some
  where
    by : (b : Bool) → list_all (λ h. can_go graph v h.0) (due_hosts graph v) ≡ b
        → time_of host (if b then flat_map (λ h. with_time h (time_at graph v h.0)) (due_hosts graph v) else []) ≡ Some time
        → is_announced other (if b then flat_map (λ h. with_time h (time_at graph v h.0)) (due_hosts graph v) else []) ≡ true
    by true can told =
        each_told graph v other (due_hosts graph v) (AllPass-from_list_all (λ (h : HostId). can_go graph v h.0) (due_hosts graph v) can)
        (left_in (is_due v) other (all_hosts graph) (among_all graph other other_in) due)
    by false cannot told = cc

-- ---- when dropping may follow

-- what a test says of all hosts it says of each
each_host : (p : ℕ → Bool) (count host : ℕ) → list_all (λ h. p h.0) (map host_id (range_with_len 0 count)) ≡ true → host < count → p host ≡ true
each_host p count host all lt =
    let at : get_or (map host_id (range_with_len 0 count)) host (host_id 0) ≡ host_id host = get_or-map-range_with_len host_id 0 count host host (host_id 0) lt (omega arith) in
    let size = length-map-range_with_len host_id 0 count in
    sym (ap (λ (h : HostId). p h.0) at) ∙ AllPass-from_list_all (λ (h : HostId). p h.0) (map host_id (range_with_len 0 count)) all host (host_id 0) (omega arith)

-- no host is a reason to wait: none is due, and each that is kept said that it has noted all
pub record IsOver (v : View) (host : ℕ) : Type 0 where
  pub trusted : is_announced host v.announced ≡ false → v.doomed host ≡ false
  pub noted : is_kept v host ≡ true → v.done host ≡ length v.announced

over_by : (doomed told kept : Bool) (done count : ℕ) → (not (doomed && not told) && (not kept || (done == count))) ≡ true
    → (told ≡ false → doomed ≡ false) × (kept ≡ true → done ≡ count)
over_by true true true done count is = (λ h. absurd (true≢false h), λ h. eqb-true done count is)
over_by true true false done count is = (λ h. absurd (true≢false h), λ h. absurd (true≢false (sym h)))
over_by true false kept done count is = absurd (true≢false (sym is))
over_by false told true done count is = (λ h. refl, λ h. eqb-true done count is)
over_by false told false done count is = (λ h. refl, λ h. absurd (true≢false (sym h)))

pub over_at : (graph : Graph) (v : View) (host : ℕ) → all_over graph v ≡ true → host < graph.hosts → IsOver v host
over_at graph v host over lt =
    let parts = over_by (v.doomed host) (is_announced host v.announced) (is_kept v host) (v.done host) (length v.announced) (each_host (is_over v) graph.hosts host over lt) in
    record { trusted = parts.0; noted = parts.1 }
