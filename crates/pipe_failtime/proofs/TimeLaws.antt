-- Lemmas on failure times: the value is the greatest of those that were reported.
use Rattle.std.proofs.Common.{◌≡◌, ℕ, zero, suc, ◌<◌, ◌≤◌, max, Bool, true, false, ◌&&◌, if◌then◌else◌, length, Option, None, Some, ◌⊎◌, inl, inr, refl, sym, ap, subst, ◌∙◌, arith}
use Rattle.std.proofs.lemmas.Bool.{and_from, and_parts}
use Rattle.std.proofs.lemmas.Bool.Decides.{leb_tells}
use Rattle.pipe_base.specs.declared.name.Ts.{Ts}
use Rattle.pipe_graph.specs.Graph.{Graph}
use Rattle.pipe_graph.specs.Reach.{feeds}
use Rattle.pipe_graph.specs.FailureTime.{IsFailureTime, IsFedReport, failure_time, fed_report, later, latest_below}
use Rattle.pipe_failtime.proofs.TestLaws.{below_next}

-- what the latest time below a bound is: one of the times, and none is later; or there is none
abbrev IsLatest : (ℕ → Option Ts) → ℕ → Option Ts → Type 0
IsLatest time n None = (k : ℕ) → k < n → time k ≡ None
IsLatest time n (Some latest) = ((k : ℕ) × (k < n) × (time k ≡ Some latest)) × ((k : ℕ) (other : Ts) → k < n → time k ≡ Some other → other.0 ≤ latest.0)

either : (a b : ℕ) → (a ≤ b) ⊎ (b ≤ a)
either a b = elim (leb_tells a b) [
  | inl le ↦ inl le.1
  | inr gt ↦ let lt = gt.1 in inr (omega arith)
]

latest_more : (time : ℕ → Option Ts) (n : ℕ) (before here : Option Ts) → IsLatest time n before → time n ≡ here → IsLatest time (suc n) (later before here)
latest_more time n None None none is = λ k lt. elim (below_next n k lt) [
  | inl below ↦ none k below
  | inr same ↦ subst (λ (j : ℕ). time j ≡ None) (sym same) is
]
latest_more time n None (Some t) none is = (
  (n, omega arith, is),
  λ k other lt at. elim (below_next n k lt) [
    | inl below ↦ let none_at : time k ≡ None = none k below in absurd (cc)
    | inr same ↦ let here : time n ≡ Some other = subst (λ (j : ℕ). time j ≡ Some other) same at in let alike : t ≡ other = cc in let numbers : t.0 ≡ other.0 = ap (λ (s : Ts). s.0) alike in omega arith
  ],
)
latest_more time n (Some s) None latest is = (
  (latest.0.0, let lt = latest.0.1 in omega arith, latest.0.2),
  λ k other lt at. elim (below_next n k lt) [
    | inl below ↦ latest.1 k other below at
    | inr same ↦ let here : time n ≡ Some other = subst (λ (j : ℕ). time j ≡ Some other) same at in absurd (cc)
  ],
)
latest_more time n (Some s) (Some t) latest is = (
  greater (either s.0 t.0),
  λ k other lt at. elim (below_next n k lt) [
    | inl below ↦ let le = latest.1 k other below at in omega arith
    | inr same ↦ let here : time n ≡ Some other = subst (λ (j : ℕ). time j ≡ Some other) same at in let alike : t ≡ other = cc in let numbers : t.0 ≡ other.0 = ap (λ (s : Ts). s.0) alike in omega arith
  ],
)
  where
    one : (u v : Ts) → u.0 ≡ v.0 → u ≡ v
    one u v same = λ i. record { 0 = same i }

    greater : (s.0 ≤ t.0) ⊎ (t.0 ≤ s.0) → (k : ℕ) × (k < suc n) × (time k ≡ Some (record { 0 = max s.0 t.0 }))
    greater (inl le) = (n, omega arith, is ∙ ap (λ (u : Ts). Some u) (one t (record { 0 = max s.0 t.0 }) (omega arith)))
    greater (inr ge) = (latest.0.0, let lt = latest.0.1 in omega arith, latest.0.2 ∙ ap (λ (u : Ts). Some u) (one s (record { 0 = max s.0 t.0 }) (omega arith)))

pub latest_is : (time : ℕ → Option Ts) (n : ℕ) → IsLatest time n (latest_below time n)
latest_is time zero = λ k lt. absurd (omega arith)
latest_is time (suc n) = latest_more time n (latest_below time n) (time n) (latest_is time n) refl

-- a time that is fed is the report of a live link that the host feeds
fed_gives : (g : Graph) (live : ℕ → Bool) (reports : ℕ → Option Ts) (host link : ℕ) (value : Ts) → link < length g.links
    → fed_report g live reports host link ≡ Some value → IsFedReport g live reports host link value
fed_gives g live reports host link value lt is = pick (live link && feeds g live host link) refl is
  where
    pick : (t : Bool) → (live link && feeds g live host link) ≡ t → (if t then reports link else None) ≡ Some value → IsFedReport g live reports host link value
    pick true both report =
        let parts = and_parts (live link) (feeds g live host link) both in
        record { known = lt; is_live = parts.0; fed = parts.1; report = report }
    pick false both report = absurd (cc)

fed_from : (g : Graph) (live : ℕ → Bool) (reports : ℕ → Option Ts) (host link : ℕ) (value : Ts)
    → IsFedReport g live reports host link value → fed_report g live reports host link ≡ Some value
fed_from g live reports host link value is =
    ap (λ (t : Bool). if t then reports link else None) (and_from (live link) (feeds g live host link) is.is_live is.fed) ∙ is.report

-- the time in words, and back
pub time_in_words : (g : Graph) (live : ℕ → Bool) (reports : ℕ → Option Ts) (host : ℕ) (time : Ts)
    → failure_time g live reports host ≡ Some time → IsFailureTime g live reports host time
time_in_words g live reports host time is =
    let latest : IsLatest (fed_report g live reports host) (length g.links) (Some time) =
    subst (IsLatest (fed_report g live reports host) (length g.links)) is (latest_is (fed_report g live reports host) (length g.links)) in
    record {
      link = latest.0.0;
      reported = fed_gives g live reports host latest.0.0 time latest.0.1 latest.0.2;
      greatest = λ other value fed. latest.1 other value fed.known (fed_from g live reports host other value fed);
    }

-- no link of the kind has a report
pub none_in_words : (g : Graph) (live : ℕ → Bool) (reports : ℕ → Option Ts) (host : ℕ)
    → failure_time g live reports host ≡ None → (link : ℕ) (value : Ts) → IsFedReport g live reports host link value → ⊥
none_in_words g live reports host is link value fed =
    let latest : IsLatest (fed_report g live reports host) (length g.links) None =
    subst (IsLatest (fed_report g live reports host) (length g.links)) is (latest_is (fed_report g live reports host) (length g.links)) in
    let none : fed_report g live reports host link ≡ None = latest link fed.known in
    let some : fed_report g live reports host link ≡ Some value = fed_from g live reports host link value fed in
    cc

pub words_none : (g : Graph) (live : ℕ → Bool) (reports : ℕ → Option Ts) (host : ℕ)
    → ((link : ℕ) (value : Ts) → IsFedReport g live reports host link value → ⊥) → failure_time g live reports host ≡ None
words_none g live reports host none = pick (failure_time g live reports host) refl
  where
    pick : (time : Option Ts) → failure_time g live reports host ≡ time → failure_time g live reports host ≡ None
    pick None is = is
    pick (Some time) is = let words = time_in_words g live reports host time is in absurd (none words.link time words.reported)

pub words_time : (g : Graph) (live : ℕ → Bool) (reports : ℕ → Option Ts) (host : ℕ) (time : Ts)
    → IsFailureTime g live reports host time → failure_time g live reports host ≡ Some time
words_time g live reports host time words = pick (failure_time g live reports host) refl
  where
    one : (u v : Ts) → u.0 ≡ v.0 → u ≡ v
    one u v same = λ i. record { 0 = same i }

    pick : (found : Option Ts) → failure_time g live reports host ≡ found → failure_time g live reports host ≡ Some time
    pick None is = absurd (none_in_words g live reports host is words.link time words.reported)
    pick (Some other) is =
        let found = time_in_words g live reports host other is in
        let up = words.greatest found.link other found.reported in
        let down = found.greatest words.link time words.reported in
        is ∙ ap (λ (u : Ts). Some u) (one other time (omega arith))
