-- Lemmas on numbers as words.
use Rattle.std.proofs.Common.{lit<, ◌≡◌, ◌==◌, ◌&&◌, ℕ, ◌+◌, ◌-◌, ◌*◌, ◌<◌, ◌≤◌, ◌^◌, Bool, true, false, List, [], ◌∷◌, length, take, get_or, arith, sym, nat_lt, refl, subst, nat_le, if◌then◌else◌, Some, None}
use Rattle.std.proofs.lemmas.Bool.{and_parts}
use Rattle.std.proofs.Math.Nat.{pow-le-pow_right}
use Rattle.std.specs.Char.{is_ascii_digit, digit_value}
use Rattle.std.specs.List.{list_all}
use Rattle.std.specs.Option.{IfSome}
use Rattle.std.specs.Str.Parse.{AllDigits, digits_value}
use Rattle.std.proofs.lemmas.Int.Digits.{digits_value-lt, digits_value_more, digits_more}
use Rattle.std.proofs.lemmas.List.{length-take}
use Rattle.pipe_text.specs.Number.{is_number, number_of}
use Rattle.std.proofs.lemmas.Bool.Decides.{nat_tests}

-- an ASCII digit has a value below ten, which it is 48 above
digit_small : (digit : ℕ) → is_ascii_digit digit ≡ true → digit_value digit < 10
digit_small digit is = grind (arith, nat_tests)

digits_all : (word : List ℕ) → list_all is_ascii_digit word ≡ true → AllDigits 10 word
digits_all [] is = tt
digits_all (digit ∷ word) is =
    let parts = and_parts (is_ascii_digit digit) (list_all is_ascii_digit word) is in
    (digit_small digit parts.0, digits_all word parts.1)

no_digits : (word : List ℕ) → (length word == 0) ≡ true → AllDigits 10 word
no_digits [] is = tt
no_digits (digit ∷ word) is = absurd (grind (arith, nat_tests))

number_parts : (t : Bool) (first : ℕ) (rest : List ℕ) → (first == 48) ≡ t
    → (if t then length rest == 0 else is_ascii_digit first && (nat_lt (length rest) 15 && list_all is_ascii_digit rest)) ≡ true
    → AllDigits 10 (first ∷ rest) × (length (first ∷ rest) ≤ 15)
number_parts true first rest is_zero none =
    let zero : first ≡ 48 = grind (arith, nat_tests) in
    let few : length rest ≡ 0 = grind (arith, nat_tests) in
    ((digit_small first (subst (λ (digit : ℕ). is_ascii_digit digit ≡ true) (sym zero) refl), no_digits rest none), omega arith)
number_parts false first rest is_zero all =
    let parts = and_parts (is_ascii_digit first) (nat_lt (length rest) 15 && list_all is_ascii_digit rest) all in
    let more = and_parts (nat_lt (length rest) 15) (list_all is_ascii_digit rest) parts.1 in
    let few : length rest < 15 = grind (arith, nat_tests, more.0) in
    ((digit_small first parts.0, digits_all rest more.1), omega arith)

-- a number has at most 15 digits and nothing else
pub number_digits : (word : List ℕ) → is_number word ≡ true → AllDigits 10 word × (length word ≤ 15)
number_digits [] is = absurd cc
number_digits (first ∷ rest) is = number_parts (first == 48) first rest refl is

-- the first few digits have a small value
pub front_small : (text : List ℕ) (count : ℕ) → count ≤ 15 → AllDigits 10 (take count text) → digits_value 10 (take count text) < 1000000000000000
front_small text count few digits =
    let below = digits_value-lt 10 (take count text) digits in
    let short : length (take count text) ≤ 15 = omega (arith, length-take count text) in
    let most : 10 ^ length (take count text) ≤ 10 ^ 15 = pow-le-pow_right {n = 10} (lit< tt) {i = length (take count text)} {j = 15} short in
    omega (arith, below, most)

-- a digit as its value
pub digit_range : (digit : ℕ) → is_ascii_digit digit ≡ true → (digit_value digit ≡ digit - 48) × (48 ≤ digit) × (digit ≤ 57)
digit_range digit is = (grind (arith, nat_tests), grind (arith, nat_tests), grind (arith, nat_tests))

-- one digit more
pub digits_one_more : (text : List ℕ) (at : ℕ) → at < length text → is_ascii_digit (get_or text at 0) ≡ true
    → AllDigits 10 (take at text) → AllDigits 10 (take (at + 1) text)
digits_one_more text at within is digits = digits_more 10 text at within digits (digit_small (get_or text at 0) is)

pub value_more : (text : List ℕ) (at value digit : ℕ) → at < length text → is_ascii_digit (get_or text at 0) ≡ true
    → value ≡ digits_value 10 (take at text) → digit ≡ get_or text at 0 - 48
    → value * 10 + digit ≡ digits_value 10 (take (at + 1) text)
value_more text at value digit within is so_far next =
    let known = digit_range (get_or text at 0) is in
    omega (arith, known.0, so_far, next, digits_value_more 10 text at within)

-- a number that is read is within its bound
pub number_within : (most : ℕ) (word : List ℕ) → IfSome (number_of most word) (λ n. n ≤ most)
number_within most word = pick (is_number word && nat_le (digits_value 10 word) most) refl
  where
    pick : (t : Bool) → (is_number word && nat_le (digits_value 10 word) most) ≡ t → IfSome (if t then Some (digits_value 10 word) else None) (λ n. n ≤ most)
    pick true is =
        let below = (and_parts (is_number word) (nat_le (digits_value 10 word) most) is).1 in
        grind (arith, nat_tests, below)
    pick false is = tt
