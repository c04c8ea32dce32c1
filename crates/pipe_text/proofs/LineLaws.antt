-- Lemmas on the lines of a text.
use Rattle.std.proofs.Common.{◌≡◌, ◌==◌, ℕ, ◌+◌, ◌<◌, ◌≤◌, Bool, false, cond, List, [], ◌∷◌, length, take, drop, None, Some, refl, ap, subst, ◌∙◌, arith}
use Rattle.std.specs.List.{slice_split, position, position_or_len, All}
use Rattle.std.specs.Str.Lines.{lines, lines_of_parts, strip_carriage_return}
use Rattle.std.proofs.lemmas.List.Splits.{slice_split_first, slice_split_none, length-slice_split}
use Rattle.std.proofs.lemmas.List.Quantifiers.{position-Some}
use Rattle.std.proofs.lemmas.List.Sums.{position_or_len_is, fails_before_first}
use Rattle.std.proofs.lemmas.Bool.{ne_eqb}
use Rattle.std.proofs.lemmas.Bool.Decides.{nat_tests}
use Rattle.std.proofs.lemmas.List.Elements.{All-from_get_or}

abbrev is_feed : ℕ → Bool
is_feed byte = byte == 10

-- a part before a line feed is a line
pub before_feed : (part : List ℕ) (parts : List (List ℕ)) → 0 < length parts
    → lines_of_parts (part ∷ parts) ≡ strip_carriage_return part ∷ lines_of_parts parts
before_feed part [] some = absurd (omega arith)
before_feed part (next ∷ parts) some = refl

-- the text up to the first line feed is the first line
pub lines_at : (text : List ℕ) (n : ℕ) → position (λ byte. byte == 10) text ≡ Some n
    → lines text ≡ strip_carriage_return (take n text) ∷ lines (drop (n + 1) text)
lines_at text n found =
    let at = position-Some is_feed text n 0 found in
    let place : position_or_len is_feed text ≡ n = position_or_len_is is_feed text n 0 (omega (arith, at.0)) at.2 (λ _. at.1) in
    let split : slice_split is_feed text ≡ take n text ∷ slice_split is_feed (drop (n + 1) text)
    = subst (λ k. slice_split is_feed text ≡ take k text ∷ slice_split is_feed (drop (k + 1) text)) place
    (slice_split_first is_feed text 0 (omega (arith, place, at.0))) in
    ap lines_of_parts split
    ∙ before_feed (take n text) (slice_split is_feed (drop (n + 1) text)) (omega (arith, length-slice_split is_feed (drop (n + 1) text)))

-- a text that is not empty and has no line feed is one line
pub lines_none : (text : List ℕ) → 0 < length text → position (λ byte. byte == 10) text ≡ None → lines text ≡ text ∷ []
lines_none text some none =
    let far : length text ≤ position_or_len is_feed text = grind (arith, nat_tests) in
    let no_feed : All (λ byte. is_feed byte ≡ false) text
    = All-from_get_or (λ byte. is_feed byte ≡ false) text 0 (λ i within. fails_before_first is_feed text i 0 (omega arith)) in
    ap lines_of_parts (slice_split_none is_feed text no_feed) ∙ ap (λ t. cond t [] (text ∷ [])) (ne_eqb (length text) 0 (λ z. omega arith))
