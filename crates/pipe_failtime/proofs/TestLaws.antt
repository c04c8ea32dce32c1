-- Lemmas on tests of the numbers below a bound, and on how many pass.
use Rattle.std.proofs.Common.{◌⊎◌, inl, inr, ◌≡◌, ℕ, zero, suc, ◌+◌, ◌<◌, ◌≤◌, Bool, true, false, ◌&&◌, refl, sym, true≢false, arith}
use Rattle.std.proofs.lemmas.Bool.{false_from_ne_true}
use Rattle.std.proofs.lemmas.Bool.Decides.{eqb_tells}
use Rattle.pipe_graph.specs.Below.{any_below}
use Rattle.pipe_graph.proofs.BelowLaws as paths
use Rattle.pipe_graph.proofs.BelowLaws.{any_below_gives, count_gains}
use Rattle.pipe_graph.specs.Count.{count_below}

pub none_more : (p : ℕ → Bool) (k : ℕ) → any_below p k ≡ false → p k ≡ false → any_below p (k + 1) ≡ false
none_more p k none isnt =
    let e : k + 1 ≡ suc k = omega arith in
    rw e (rw (isnt, none) refl)

pub none_from : (p : ℕ → Bool) (n : ℕ) → ((k : ℕ) → k < n → p k ≡ true → ⊥) → any_below p n ≡ false
none_from p n none = false_from_ne_true (any_below p n) (λ some. let found = any_below_gives p n some in none found.0 found.1 found.2)

-- the second of two tests fails where both together fail and the first passes
pub and_fails : (s t : Bool) → (s && t) ≡ false → s ≡ true → t ≡ false
and_fails true t both is = both
and_fails false t both is = absurd (true≢false (sym is))

same_count : (p : ℕ → Bool) (n : ℕ) → count_below p n ≡ paths.count_below p n
same_count p zero = refl
same_count p (suc n) = omega (arith, same_count p n)

-- fewer pass where each that passes passed before, and one passes no more
pub count_falls : (p q : ℕ → Bool) (n j : ℕ) → ((k : ℕ) → k < n → p k ≡ true → q k ≡ true) → j < n → p j ≡ false → q j ≡ true → count_below p n + 1 ≤ count_below q n
count_falls p q n j more lt old new =
    omega (arith, same_count p n, same_count q n, count_gains p q n j more lt old new)

-- none passes where none is counted
pub none_counted : (p : ℕ → Bool) (n : ℕ) → count_below p n ≤ 0 → (k : ℕ) → k < n → p k ≡ true → ⊥
none_counted p n none k lt is =
    absurd (omega (arith, count_falls (λ (j : ℕ). false) p n k (λ j below h. absurd (true≢false (sym h))) lt refl is))

pub count_most : (p : ℕ → Bool) (n : ℕ) → count_below p n ≤ n
count_most p n = omega (arith, same_count p n, paths.count_most p n)

pub below_next : (n k : ℕ) → k < suc n → (k < n) ⊎ (k ≡ n)
below_next n k lt = elim (eqb_tells k n) [
  | inl same ↦ inr same.1
  | inr other ↦ let apart = other.1 in inl (omega arith)
]
