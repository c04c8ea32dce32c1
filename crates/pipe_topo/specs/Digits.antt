-- Sets of small numbers in the binary digits of one number.
use Rattle.std.specs.Prelude.{◌≡◌, ℕ, zero, suc, ◌+◌, ◌*◌, ◌/◌, ◌%◌, ◌^◌, ◌<◌, ◌==◌, if◌then◌else◌, Bool, true, false, List, [], ◌∷◌, refl}
use Rattle.std.proofs.Common.{arith, ap, sym, ◌∙◌, inl, inr, true≢false}
use Rattle.std.proofs.lemmas.Bool.{eqb-true}
use Rattle.std.proofs.Math.Nat.{pow-succ'}
use Rattle.std.proofs.lemmas.Bool.Decides.{eqb_tells}

-- the digits of a number, so many, the lowest first
unfoldable pub digits : ℕ → ℕ → List Bool
digits zero n = []
digits (suc count) n = (n % 2 == 1) ∷ digits count (n / 2)

-- the number that has these digits
unfoldable pub number_of : List Bool → ℕ
number_of [] = 0
number_of (b ∷ bs) = (if b then 1 else 0) + 2 * number_of bs

-- a number is that of its digits
pub number_of-digits : (count n : ℕ) → n < 2 ^ count → number_of (digits count n) ≡ n
unfolding digits number_of
number_of-digits zero n lt = omega arith
number_of-digits (suc count) n lt =
    let power : 2 ^ suc count ≡ 2 * 2 ^ count = pow-succ' 2 count in
    let rest = number_of-digits count (n / 2) (omega arith) in
    ap (λ (m : ℕ). (if n % 2 == 1 then 1 else 0) + 2 * m) rest ∙ lowest (n % 2 == 1) refl
  where
    lowest : (t : Bool) → (n % 2 == 1) ≡ t → (if n % 2 == 1 then 1 else 0) + 2 * (n / 2) ≡ n
    lowest true odd = rw odd (let one = eqb-true (n % 2) 1 odd in omega arith)
    lowest false even = rw even (elim (eqb_tells (n % 2) 1) [
      | inl one ↦ absurd (true≢false (sym one.0 ∙ even))
      | inr other ↦ let apart = other.1 in omega arith
    ])
