-- Lemmas on a set while it is filled.
use Rattle.std.proofs.Common.{◌≡◌, ℕ, ◌+◌, ◌<◌, ◌≤◌, Bool, true, false, List, set, replicate, inl, inr, sym, subst, ◌∙◌, arith}
use Rattle.std.proofs.lemmas.Bool.Decides.{eqb_tells, leb_tells}
use Rattle.std.proofs.lemmas.List.{get_or-set_same, get_or-set_other, get_or_past, length-set, length-replicate, get_or-replicate}
use Rattle.pipe_topo.specs.Sets.{has}
use Rattle.pipe_failtime.specs.Filled.{IsFilled}

pub filled_none : (count : ℕ) (test : ℕ → Bool) → IsFilled (replicate count false) count test 0
filled_none count test = record {
  size = length-replicate count false;
  below = λ n lt. absurd (omega arith);
  above = λ n le. nothing count n;
}
  where
    nothing : (count n : ℕ) → has (replicate count false) n ≡ false
    nothing count n = elim (leb_tells count n) [
      | inl past ↦ let le = past.1 in let size = length-replicate count false in get_or_past (replicate count false) n false (omega arith)
      | inr inside ↦ get_or-replicate count n false false inside.1
    ]

pub filled_in : (xs : List Bool) (count : ℕ) (test : ℕ → Bool) (i : ℕ) → IsFilled xs count test i → i < count → test i ≡ true → IsFilled (set xs i true) count test (i + 1)
filled_in xs count test i filled lt is =
    let size = filled.size in
    record {
      size = length-set xs i true ∙ size;
      below = λ n below. elim (eqb_tells n i) [
        | inl same ↦ subst (λ (k : ℕ). has (set xs i true) k ≡ test k) (sym same.1) (get_or-set_same xs i true false (omega arith) ∙ sym is)
        | inr other ↦ let apart = other.1 in get_or-set_other xs i n true false other.1 ∙ filled.below n (omega arith)
      ];
      above = λ n le. get_or-set_other xs i n true false (λ same. absurd (omega arith)) ∙ filled.above n (omega arith);
    }

pub filled_out : (xs : List Bool) (count : ℕ) (test : ℕ → Bool) (i : ℕ) → IsFilled xs count test i → test i ≡ false → IsFilled xs count test (i + 1)
filled_out xs count test i filled isnt = record {
  size = filled.size;
  below = λ n below. elim (eqb_tells n i) [
    | inl same ↦ subst (λ (k : ℕ). has xs k ≡ test k) (sym same.1) (filled.above i (omega arith) ∙ sym isnt)
    | inr other ↦ let apart = other.1 in filled.below n (omega arith)
  ];
  above = λ n le. filled.above n (omega arith);
}

-- a set that is full up to where the test fails
pub filled_is : (xs : List Bool) (count : ℕ) (test : ℕ → Bool) (bound : ℕ) → IsFilled xs count test bound → ((n : ℕ) → bound ≤ n → test n ≡ false) → has xs ≡ test
filled_is xs count test bound filled past = λ i n. at n i
  where
    at : (n : ℕ) → has xs n ≡ test n
    at n = elim (leb_tells bound n) [
      | inl above ↦ let le = above.1 in filled.above n le ∙ sym (past n le)
      | inr below ↦ let lt = below.1 in filled.below n (omega arith)
    ]
