-- Lemmas on the binary digits of a number: how one is set, cleared and read.
use Rattle.std.proofs.Common.{◌≡◌, ◌≢◌, ℕ, zero, suc, ◌-◌, ◌*◌, ◌/◌, ◌%◌, ◌^◌, ◌<◌, ◌≤◌, ◌==◌, Bool, true, false, not, List, ◌∷◌, ◌++◌, length, replicate, get_or, set, bit_and, bit_or, w64, inl, inr, refl, sym, ap, subst, ◌∙◌, arith, length-set, length-append, get_or-set_same, get_or-set_other}
use Rattle.std.specs.Int.{bit_at, bit_not}
use Rattle.std.proofs.lemmas.Bool.Decides.{eqb_tells, leb_tells}
use Rattle.std.proofs.lemmas.List.{same_lists, length-replicate, get_or-replicate, get_or_append_left, get_or-append_right}
use Rattle.std.proofs.lemmas.Nat.Bits.{bit_at_lowest, bit_at-suc, bit_at_set_same, bit_at_set_other, bit_at_clear_same, bit_at_clear_other, bit_at_ones, bit_at_ones_above, bit_at-lt}
use Rattle.std.proofs.Math.Pow.{pow_pos}
use Rattle.pipe_topo.specs.Digits.{digits}

pub length-digits : (count n : ℕ) → length (digits count n) ≡ count
unfolding digits
length-digits zero n = refl
length-digits (suc count) n = let rest = length-digits count (n / 2) in omega arith

pub get_or-digits : (count n i : ℕ) (d : Bool) → i < count → get_or (digits count n) i d ≡ (bit_at n i == 1)
unfolding digits
get_or-digits zero n i d lt = absurd (omega arith)
get_or-digits (suc count) n zero d lt = ap (λ (b : ℕ). b == 1) (sym (bit_at_lowest n))
get_or-digits (suc count) n (suc i) d lt = get_or-digits count (n / 2) i d (omega arith) ∙ ap (λ (b : ℕ). b == 1) (sym (bit_at-suc n i))

pub no_digits : (count : ℕ) → digits count 0 ≡ replicate count false
unfolding digits
no_digits zero = refl
no_digits (suc count) = ap (λ (bs : List Bool). false ∷ bs) (no_digits count)

-- a number that differs from another in one digit
one_other : (count n m k : ℕ) (b : Bool) → k < count → (bit_at m k == 1) ≡ b → ((i : ℕ) → i < count → i ≢ k → bit_at m i ≡ bit_at n i)
    → digits count m ≡ set (digits count n) k b
one_other count n m k b lt here elsewhere =
    let m_size = length-digits count m in
    let n_size = length-digits count n in
    let set_size = length-set (digits count n) k b in
    same_lists (digits count m) (set (digits count n) k b) (omega arith)
    (λ i d i_lt.
    let inside : i < count = omega arith in
    elim (eqb_tells i k) [
      | inl same ↦
          get_or-digits count m i d inside ∙ subst (λ (j : ℕ). (bit_at m j == 1) ≡ b) (sym same.1) here
          ∙ sym (subst (λ (j : ℕ). get_or (set (digits count n) k b) j d ≡ b) (sym same.1) (get_or-set_same (digits count n) k b d (omega arith)))
      | inr other ↦
          get_or-digits count m i d inside ∙ ap (λ (t : ℕ). t == 1) (elsewhere i inside other.1) ∙ sym (get_or-digits count n i d inside)
          ∙ sym (get_or-set_other (digits count n) k i b d other.1)
    ])

pub digits_set : (n k : ℕ) → k < 64 → digits 64 (bit_or n (1 * 2 ^ k % 2 ^ 64)) ≡ set (digits 64 n) k true
digits_set n k lt =
    one_other 64 n (bit_or n (1 * 2 ^ k % 2 ^ 64)) k true lt (ap (λ (b : ℕ). b == 1) (bit_at_set_same w64 n k lt))
    (λ i i_lt apart. bit_at_set_other w64 n k lt i apart)

pub digits_clear : (n k : ℕ) → k < 64 → digits 64 (bit_and n (bit_not w64 (1 * 2 ^ k % 2 ^ 64))) ≡ set (digits 64 n) k false
digits_clear n k lt =
    one_other 64 n (bit_and n (bit_not w64 (1 * 2 ^ k % 2 ^ 64))) k false lt (ap (λ (b : ℕ). b == 1) (bit_at_clear_same w64 n k lt))
    (λ i i_lt apart. bit_at_clear_other w64 n k lt i i_lt apart)

-- the digits of a power less one
pub low_digits : (count k : ℕ) → k ≤ count → digits count (2 ^ k - 1) ≡ replicate k true ++ replicate (count - k) false
low_digits count k le =
    let size = length-digits count (2 ^ k - 1) in
    let ones : length (replicate k true) ≡ k = length-replicate k true in
    let zeros : length (replicate (count - k) false) ≡ count - k = length-replicate (count - k) false in
    let both = length-append (replicate k true) (replicate (count - k) false) in
    same_lists (digits count (2 ^ k - 1)) (replicate k true ++ replicate (count - k) false) (omega arith)
    (λ i d i_lt.
    let inside : i < count = omega arith in
    elim (leb_tells k i) [
      | inl above ↦
          get_or-digits count (2 ^ k - 1) i d inside ∙ ap (λ (b : ℕ). b == 1) (bit_at_ones_above k i above.1)
          ∙ sym (get_or-append_right (replicate k true) (replicate (count - k) false) k i d ones above.1 ∙ get_or-replicate (count - k) (i - k) false d (omega (arith, above.1)))
      | inr below ↦
          get_or-digits count (2 ^ k - 1) i d inside ∙ ap (λ (b : ℕ). b == 1) (bit_at_ones k i below.1)
          ∙ sym (get_or_append_left (replicate k true) (replicate (count - k) false) d i (omega (arith, below.1)) ∙ get_or-replicate k i true d below.1)
    ])

-- a digit times its power is not 0 exactly where the digit is 1
pub bit_is : (n k : ℕ) → not (bit_at n k * 2 ^ k == 0) ≡ (bit_at n k == 1)
bit_is n k = pick (bit_at n k) (bit_at-lt n k)
  where
    pick : (b : ℕ) → b < 2 → not (b * 2 ^ k == 0) ≡ (b == 1)
    pick zero lt = let e : 0 * 2 ^ k ≡ 0 = omega arith in ap (λ (m : ℕ). not (m == 0)) e
    pick (suc zero) lt = elim (eqb_tells (1 * 2 ^ k) 0) [
      | inl none ↦ let some = pow_pos k in absurd (omega (arith, none.1))
      | inr some ↦ ap not some.0
    ]
    pick (suc (suc b)) lt = absurd (omega arith)
