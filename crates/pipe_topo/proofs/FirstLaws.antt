-- Lemmas on the least number that passes a test.
use Rattle.std.proofs.Common.{◌≡◌, ℕ, zero, suc, ◌+◌, ◌<◌, Bool, true, false, if◌then◌else◌, Option, None, Some, inl, inr, refl, sym, subst, ◌∙◌, arith}
use Rattle.std.proofs.lemmas.Bool.Decides.{eqb_tells}
use Rattle.std.specs.Option.{option_or}
use Rattle.pipe_topo.specs.First.{first_below}

pub first_more : (p : ℕ → Bool) (k : ℕ) → first_below p k ≡ None → p k ≡ false → first_below p (k + 1) ≡ None
first_more p k none isnt =
    let e : k + 1 ≡ suc k = omega arith in
    rw e (rw (none, isnt) refl)

-- no number below the bound passes: there is no first
pub none_first : (p : ℕ → Bool) (n : ℕ) → ((k : ℕ) → k < n → p k ≡ false) → first_below p n ≡ None
none_first p zero none = refl
none_first p (suc n) none = rw (none_first p n (λ k lt. none k (omega arith)), none n (omega arith)) refl

-- none before k, k passes: k is the first of all below n
pub first_at : (p : ℕ → Bool) (n k : ℕ) → k < n → first_below p k ≡ None → p k ≡ true → first_below p n ≡ Some k
first_at p zero k lt none is = absurd (omega arith)
first_at p (suc n) k lt none is =
    elim (eqb_tells k n) [
      | inl same ↦ subst (λ (m : ℕ). first_below p (suc m) ≡ Some k) same.1 (rw (none, is) refl)
      | inr other ↦ let apart = other.1 in rw (first_at p n k (omega arith) none is) refl
    ]

-- no number below the bound passes
pub first_none : (p : ℕ → Bool) (n k : ℕ) → first_below p n ≡ None → k < n → p k ≡ false
first_none p zero k none lt = absurd (omega arith)
first_none p (suc n) k none lt = pick (λ before below. first_none p n k before below) (first_below p n) (p n) refl refl none
  where
    pick : (first_below p n ≡ None → k < n → p k ≡ false) → (before : Option ℕ) (here : Bool)
        → first_below p n ≡ before → p n ≡ here → option_or before (if here then Some n else None) ≡ None → p k ≡ false
    pick earlier None false none_before isnt h =
        elim (eqb_tells k n) [
          | inl same ↦ subst (λ (m : ℕ). p m ≡ false) (sym same.1) isnt
          | inr other ↦ let apart = other.1 in earlier none_before (omega arith)
        ]
    pick earlier None true none_before is h = cc
    pick earlier (Some m) here some_before is h = cc

-- the first number that passes passes
pub first_passes : (p : ℕ → Bool) (n k : ℕ) → first_below p n ≡ Some k → p k ≡ true
first_passes p zero k is = cc
first_passes p (suc n) k is = pick (λ before. first_passes p n k before) (first_below p n) (p n) refl refl is
  where
    pick : (first_below p n ≡ Some k → p k ≡ true) → (before : Option ℕ) (here : Bool)
        → first_below p n ≡ before → p n ≡ here → option_or before (if here then Some n else None) ≡ Some k → p k ≡ true
    pick earlier (Some m) here is_before passes h = earlier (is_before ∙ h)
    pick earlier None true is_before passes h = let same : n ≡ k = cc in subst (λ (m : ℕ). p m ≡ true) same passes
    pick earlier None false is_before passes h = cc
