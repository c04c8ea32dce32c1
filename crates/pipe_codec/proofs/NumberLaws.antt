-- A number that is read is the number that was written, and what was written is read again.
use Rattle.std.proofs.Common.{◌≡◌, ℕ, ◌+◌, ◌^◌, ◌<◌, ◌≤◌, List, [], ◌∷◌, ◌++◌, length, get_or, take, drop, refl, sym, ap, ◌∙◌, inl, inr, arith, zero, suc}
use Rattle.std.specs.Prelude.{All}
use Rattle.std.specs.Int.{w16, w64, byte_at, from_be_bytes, to_be_bytes}
use Rattle.std.proofs.Math.Seq.{take-add}
use Rattle.std.proofs.lemmas.Bool.{cases_lt}
use Rattle.std.proofs.lemmas.List.{length-take, length-drop, get_or-append-add, get_or-drop, get_or-take, get_or_past, take_all}
use Rattle.std.proofs.lemmas.Nat.{be_bytes_2, be_bytes_8, from_be_bytes-to_be_bytes_2, from_be_bytes-to_be_bytes_8}
use Rattle.pipe_codec.specs.Number.{two_bytes, six_bytes, two_at, six_at}

-- each number of the list is a byte
abbrev pub AreBytes : List ℕ → Type 0
AreBytes bytes = (i : ℕ) → get_or bytes i 0 < 256

-- a list of bytes, by its items
pub AreBytes-from_all : (bytes : List ℕ) → All (λ b. b < 2 ^ 8) bytes → AreBytes bytes
AreBytes-from_all bytes each i =
    elim (cases_lt i (length bytes)) [
      | inl lt ↦ each i 0 lt
      | inr le ↦ omega (arith, get_or_past bytes i 0 le)
    ]

pub AreBytes-drop : (n : ℕ) (bytes : List ℕ) → AreBytes bytes → AreBytes (drop n bytes)
AreBytes-drop n bytes are i = omega (arith, get_or-drop n bytes i 0, are (n + i))

pub AreBytes-take : (n : ℕ) (bytes : List ℕ) → AreBytes bytes → AreBytes (take n bytes)
AreBytes-take n bytes are i =
    elim (cases_lt i n) [
      | inl lt ↦ omega (arith, get_or-take n bytes i 0 lt, are i)
      | inr le ↦ omega (arith, get_or_past (take n bytes) i 0 (omega (arith, length-take n bytes)))
    ]

pub AreBytes-behind : (front bytes whole : List ℕ) → AreBytes whole → front ++ bytes ≡ whole → AreBytes bytes
AreBytes-behind front bytes whole are parts i =
    omega (arith, ap (λ (xs : List ℕ). get_or xs (length front + i) 0) parts, get_or-append-add front bytes i 0, are (length front + i))

cut : (at k : ℕ) (bytes : List ℕ) → at + k ≤ length bytes → length (take k (drop at bytes)) ≡ k
cut at k bytes le = omega (arith, length-take k (drop at bytes), length-drop at bytes)

behind_zeros : (bytes : List ℕ) → AreBytes bytes → AreBytes (0 ∷ 0 ∷ bytes)
behind_zeros bytes are zero = omega arith
behind_zeros bytes are (suc zero) = omega arith
behind_zeros bytes are (suc (suc i)) = are i

-- two bytes that are read and written are the same two bytes
pub two_bytes-two_at : (at : ℕ) (bytes : List ℕ) → AreBytes bytes → at + 2 ≤ length bytes → two_bytes (two_at at bytes) ≡ take 2 (drop at bytes)
unfolding two_at
two_bytes-two_at at bytes are le =
    be_bytes_2 (take 2 (drop at bytes)) _ (cut at 2 bytes le) (AreBytes-take 2 _ (AreBytes-drop at bytes are)) refl

-- six bytes that are read and written are the same six bytes
pub six_bytes-six_at : (at : ℕ) (bytes : List ℕ) → AreBytes bytes → at + 6 ≤ length bytes → six_bytes (six_at at bytes) ≡ take 6 (drop at bytes)
unfolding six_at
six_bytes-six_at at bytes are le =
    let part = take 6 (drop at bytes) in
    let whole : to_be_bytes w64 (six_at at bytes) ≡ 0 ∷ 0 ∷ part =
    be_bytes_8 (0 ∷ 0 ∷ part) _ (omega (arith, cut at 6 bytes le)) (behind_zeros part (AreBytes-take 6 _ (AreBytes-drop at bytes are))) refl in
    ap (drop 2) whole

pub two_at-below : (at : ℕ) (bytes : List ℕ) → AreBytes bytes → two_at at bytes < 2 ^ 16
unfolding two_at
two_at-below at bytes are =
    let part = AreBytes-take 2 _ (AreBytes-drop at bytes are) in
    omega (arith, part 0, part 1)

pub six_at-below : (at : ℕ) (bytes : List ℕ) → AreBytes bytes → six_at at bytes < 2 ^ 48
unfolding six_at
six_at-below at bytes are =
    let part = AreBytes-take 6 _ (AreBytes-drop at bytes are) in
    omega (arith, part 0, part 1, part 2, part 3, part 4, part 5)

-- a number below 2 ^ 48 leaves the two highest of eight bytes empty
pub six-again : (n : ℕ) → n < 2 ^ 48 → from_be_bytes w64 (0 ∷ 0 ∷ six_bytes n) ≡ n
six-again n lt =
    let seventh : byte_at 7 n ≡ 0 = omega arith in
    let sixth : byte_at 6 n ≡ 0 = omega arith in
    let whole : from_be_bytes w64 (byte_at 7 n ∷ byte_at 6 n ∷ six_bytes n) ≡ n = from_be_bytes-to_be_bytes_8 n (omega arith) in
    ap (λ (x : ℕ). from_be_bytes w64 (x ∷ 0 ∷ six_bytes n)) (sym seventh)
    ∙ ap (λ (x : ℕ). from_be_bytes w64 (byte_at 7 n ∷ x ∷ six_bytes n)) (sym sixth) ∙ whole

pub two-again : (n : ℕ) → n < 2 ^ 16 → from_be_bytes w16 (two_bytes n) ≡ n
two-again n lt = from_be_bytes-to_be_bytes_2 n lt

-- the front of a list, and a part behind it
pub take-next : (bytes front field : List ℕ) (n k : ℕ) → front ≡ take n bytes → field ≡ take k (drop n bytes) → front ++ field ≡ take (n + k) bytes
take-next bytes front field n k front-is field-is = rw (front-is, field-is) (sym (take-add n k bytes))

-- the first two bytes, one by one
pub first_two : (bytes : List ℕ) → 2 ≤ length bytes → get_or bytes 0 0 ∷ get_or bytes 1 0 ∷ [] ≡ take 2 bytes
first_two [] le = absurd (omega arith)
first_two (a ∷ []) le = absurd (omega arith)
first_two (a ∷ b ∷ bytes) le = refl

-- two bytes that are all
pub one-read : (bytes : List ℕ) → AreBytes bytes → length bytes ≡ 2 → two_bytes (two_at 0 bytes) ≡ bytes
one-read bytes are len = two_bytes-two_at 0 bytes are (omega arith) ∙ take_all 2 bytes (omega arith)

-- a name and a time that are all
pub timed-read : (bytes : List ℕ) → AreBytes bytes → length bytes ≡ 8 → two_bytes (two_at 0 bytes) ++ six_bytes (six_at 2 bytes) ≡ bytes
timed-read bytes are len =
    take-next bytes _ _ 2 6 (two_bytes-two_at 0 bytes are (omega arith)) (six_bytes-six_at 2 bytes are (omega arith)) ∙ take_all 8 bytes (omega arith)

-- a name and a count that are all
pub counted-read : (bytes : List ℕ) → AreBytes bytes → length bytes ≡ 4 → two_bytes (two_at 0 bytes) ++ two_bytes (two_at 2 bytes) ≡ bytes
counted-read bytes are len =
    take-next bytes _ _ 2 2 (two_bytes-two_at 0 bytes are (omega arith)) (two_bytes-two_at 2 bytes are (omega arith)) ∙ take_all 4 bytes (omega arith)
