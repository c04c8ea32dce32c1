-- Lemmas on tests of the numbers below a bound, and on how many pass.
use Rattle.std.proofs.Common.{◌≡◌, ℕ, zero, suc, ◌+◌, ◌<◌, ◌≤◌, Bool, true, false, if◌then◌else◌, inl, inr, refl, sym, subst, ◌∙◌, true≢false, arith}
use Rattle.std.proofs.lemmas.Bool.{false_from_ne_true, or_cases, or_left, or_right}
use Rattle.std.proofs.lemmas.Bool.Decides.{eqb_tells}
use Rattle.pipe_graph.specs.Below.{any_below}

pub any_below_gives : (p : ℕ → Bool) (n : ℕ) → any_below p n ≡ true → (k : ℕ) × (k < n) × (p k ≡ true)
any_below_gives p zero h = absurd (true≢false (sym h))
any_below_gives p (suc n) h =
    elim (or_cases (p n) (any_below p n) h) [
      | inl here ↦ (n, omega arith, here)
      | inr below ↦ let found = any_below_gives p n below in (found.0, omega arith, found.2)
    ]

pub any_below_from : (p : ℕ → Bool) (n k : ℕ) → k < n → p k ≡ true → any_below p n ≡ true
any_below_from p zero k lt h = absurd (omega arith)
any_below_from p (suc n) k lt h =
    elim (eqb_tells k n) [
      | inl same ↦ or_left (p n) (any_below p n) (subst (λ (j : ℕ). p j ≡ true) same.1 h)
      | inr other ↦ let apart = other.1 in or_right (p n) (any_below p n) (any_below_from p n k (omega arith) h)
    ]

pub none_below : (p : ℕ → Bool) (n k : ℕ) → any_below p n ≡ false → k < n → p k ≡ false
none_below p n k none lt = false_from_ne_true (p k) (λ h. true≢false (sym (any_below_from p n k lt h) ∙ none))

-- tests that agree below the bound
pub any_below_alike : (p q : ℕ → Bool) (n : ℕ) → ((k : ℕ) → k < n → p k ≡ q k) → any_below p n ≡ any_below q n
any_below_alike p q zero same = refl
any_below_alike p q (suc n) same =
    let here : p n ≡ q n = same n (omega arith) in
    let below : any_below p n ≡ any_below q n = any_below_alike p q n (λ k lt. same k (omega arith)) in
    cc

-- how many numbers below the bound pass
abbrev pub count_below : (ℕ → Bool) → ℕ → ℕ
count_below p zero = 0
count_below p (suc n) = (if p n then 1 else 0) + count_below p n

one_grows : (s t : Bool) → (s ≡ true → t ≡ true) → (if s then 1 else 0) ≤ (if t then 1 else 0)
one_grows true true h = omega arith
one_grows true false h = absurd (true≢false (sym (h refl)))
one_grows false t h = omega arith

one_gains : (s t : Bool) → s ≡ false → t ≡ true → (if s then 1 else 0) + 1 ≤ (if t then 1 else 0)
one_gains true t is isnt = absurd (true≢false is)
one_gains false true is isnt = omega arith
one_gains false false is isnt = absurd (true≢false (sym isnt))

pub count_grows : (p q : ℕ → Bool) (n : ℕ) → ((k : ℕ) → k < n → p k ≡ true → q k ≡ true) → count_below p n ≤ count_below q n
count_grows p q zero more = omega arith
count_grows p q (suc n) more =
    omega (arith, one_grows (p n) (q n) (more n (omega arith)), count_grows p q n (λ k lt. more k (omega arith)))

pub count_gains : (p q : ℕ → Bool) (n j : ℕ) → ((k : ℕ) → k < n → p k ≡ true → q k ≡ true) → j < n → p j ≡ false → q j ≡ true → count_below p n + 1 ≤ count_below q n
count_gains p q zero j more lt old new = absurd (omega arith)
count_gains p q (suc n) j more lt old new =
    elim (eqb_tells j n) [
      | inl same ↦ omega (arith, one_gains (p n) (q n) (subst (λ (k : ℕ). p k ≡ false) same.1 old) (subst (λ (k : ℕ). q k ≡ true) same.1 new), count_grows p q n (λ k below. more k (omega arith)))
      | inr other ↦ let apart = other.1 in omega (arith, one_grows (p n) (q n) (more n (omega arith)), count_gains p q n j (λ k below. more k (omega arith)) (omega arith) old new)
    ]

pub count_most : (p : ℕ → Bool) (n : ℕ) → count_below p n ≤ n
count_most p zero = omega arith
count_most p (suc n) = omega (arith, one_most (p n), count_most p n)
  where
    one_most : (t : Bool) → (if t then 1 else 0) ≤ 1
    one_most true = omega arith
    one_most false = omega arith
