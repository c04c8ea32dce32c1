-- A word is a number exactly where it is what is printed of its value.
use Rattle.std.proofs.Common.{zero, suc, lit<, ◌≡◌, ◌==◌, ◌&&◌, ◌↔◌, ℕ, ◌<◌, ◌≤◌, Bool, true, false, List, [], ◌∷◌, length, get_or, arith, sym, ap, ◌∙◌, nat_lt, nat_le, refl, subst, if◌then◌else◌, Some, None}
use Rattle.std.proofs.lemmas.Bool.{and_parts}
use Rattle.std.specs.Fmt.{decimal}
use Rattle.std.specs.Char.{is_ascii_digit, digit_value}
use Rattle.std.specs.List.{list_all}
use Rattle.std.specs.Str.Parse.{AllDigits, digits_value}
use Rattle.std.specs.Cmp.Derive.{both_true}
use Rattle.std.proofs.lemmas.Bool.Decides.{nat_tests}
use Rattle.std.proofs.lemmas.Fmt.{decimal_is_IsNumeral, decimal_digit, first_decimal, length-decimal-le, decimal-digits_value}
use Rattle.std.proofs.lemmas.Str.Parse.{digit_from_value, numerals_by_value, tells_digits}
use Rattle.pipe_text.specs.Number.{is_number, number_of}
use Rattle.pipe_text.proofs.NumberLaws.{number_digits}

digit_test : (digit : ℕ) → digit_value digit < 10 → is_ascii_digit digit ≡ true
digit_test digit small = let range = digit_from_value digit small in grind (arith, nat_tests, range.0, range.1)

list_test : (word : List ℕ) → AllDigits 10 word → list_all is_ascii_digit word ≡ true
list_test [] all = refl
list_test (digit ∷ word) all = both_true (digit_test digit all.0) (list_test word all.1)

number_from : (t : Bool) (first : ℕ) (rest : List ℕ) → (first == 48) ≡ t → AllDigits 10 (first ∷ rest) → length rest < 15
    → (first ≡ 48 → length rest ≡ 0)
    → (if t then length rest == 0 else is_ascii_digit first && (nat_lt (length rest) 15 && list_all is_ascii_digit rest)) ≡ true
number_from true first rest is all few alone =
    let zero : first ≡ 48 = grind (arith, nat_tests) in
    let none : length rest ≡ 0 = alone zero in
    ap (λ (n : ℕ). n == 0) none
number_from false first rest is all few alone =
    let short : nat_lt (length rest) 15 ≡ true = grind (arith, nat_tests) in
    both_true (digit_test first all.0) (both_true short (list_test rest all.1))

-- digits that do not begin with a zero, or are one digit
pub is_number-from : (word : List ℕ) → AllDigits 10 word → 0 < length word → length word ≤ 15
    → (get_or word 0 0 ≡ 48 → length word ≡ 1) → is_number word ≡ true
is_number-from [] all some few alone = absurd (omega arith)
is_number-from (first ∷ rest) all some few alone =
    number_from (first == 48) first rest refl all (omega arith) (λ z. let one : length (first ∷ rest) ≡ 1 = alone z in omega arith)

-- what is printed of a number is a number
decimal_is_number : (n : ℕ) → n < 1000000000000000 → is_number (decimal n) ≡ true
decimal_is_number zero small = subst (λ (word : List ℕ). is_number word ≡ true) (sym (decimal_digit 0 (lit< tt))) refl
decimal_is_number (suc m) small =
    let digits = (decimal_is_IsNumeral (suc m) (omega arith)).0 in
    let first = first_decimal (suc m) (omega arith) (omega arith) in
    is_number-from (decimal (suc m)) digits.1 digits.0 (length-decimal-le 15 (suc m) (lit< tt) (omega arith) (omega arith))
    (λ z. absurd (omega arith))

shape_from : (t : Bool) (first : ℕ) (rest : List ℕ) → (first == 48) ≡ t
    → (if t then length rest == 0 else is_ascii_digit first && (nat_lt (length rest) 15 && list_all is_ascii_digit rest)) ≡ true
    → first ≡ 48 → length rest ≡ 0
shape_from true first rest is h starts = grind (arith, nat_tests)
shape_from false first rest is h starts = absurd (grind (arith, nat_tests))

-- a number is not empty, and begins with a zero only where that is all
pub number_shape : (word : List ℕ) → is_number word ≡ true → (0 < length word) × (get_or word 0 0 ≡ 48 → length word ≡ 1)
number_shape [] is = absurd cc
number_shape (first ∷ rest) is = (omega arith, λ z. let none = shape_from (first == 48) first rest refl is z in omega arith)

-- what is chosen where a test holds
pub chosen : (t : Bool) (v n : ℕ) → (if t then Some v else None) ≡ Some n → (t ≡ true) × (v ≡ n)
chosen true v n is = (refl, cc)
chosen false v n is = absurd cc

number_to_decimal : (word : List ℕ) (most n : ℕ) → most < 1000000000000000 → number_of most word ≡ Some n → (word ≡ decimal n) × (n ≤ most)
number_to_decimal word most n small is =
    let picked = chosen (is_number word && nat_le (digits_value 10 word) most) (digits_value 10 word) n is in
    let tests = and_parts (is_number word) (nat_le (digits_value 10 word) most) picked.0 in
    let within : digits_value 10 word ≤ most = grind (arith, nat_tests, tests.1) in
    let shape = number_shape word tests.0 in
    let printed : decimal (digits_value 10 word) ≡ word
    = decimal-digits_value (numerals_by_value (AllDigits 10) tells_digits) word (number_digits word tests.0).0 shape.0 shape.1 (omega arith) in
    (sym printed ∙ ap decimal picked.1, omega (arith, within, picked.1))

number_of-decimal : (most n : ℕ) → most < 1000000000000000 → n ≤ most → number_of most (decimal n) ≡ Some n
number_of-decimal most n small within =
    let value : digits_value 10 (decimal n) ≡ n = (decimal_is_IsNumeral n (omega arith)).1 in
    let fits : nat_le n most ≡ true = grind (arith, nat_tests) in
    let tests : (is_number (decimal n) && nat_le (digits_value 10 (decimal n)) most) ≡ true
    = both_true (decimal_is_number n (omega arith)) (ap (λ (v : ℕ). nat_le v most) value ∙ fits) in
    ap (λ t. if t then Some (digits_value 10 (decimal n)) else None) tests ∙ ap Some value

-- a word is a number exactly where it is what is printed of its value
pub number_is_decimal : (word : List ℕ) (most n : ℕ) → most < 1000000000000000
    → (number_of most word ≡ Some n) ↔ ((word ≡ decimal n) × (n ≤ most))
number_is_decimal word most n small = (
  number_to_decimal word most n small,
  λ h. ap (number_of most) h.0 ∙ number_of-decimal most n small h.1,
)
