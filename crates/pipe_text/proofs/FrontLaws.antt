-- Numbers at the front of a text.
use Rattle.std.proofs.Common.{◌≡◌, ◌==◌, ◌&&◌, ◌||◌, not, ℕ, ◌+◌, ◌<◌, ◌≤◌, Bool, true, false, List, ◌∷◌, ◌++◌, length, take, drop, get_or, All, arith, ap, refl, sym, ◌∙◌, nat_le, nat_lt, if◌then◌else◌, Some, None}
use Rattle.std.specs.Char.{is_ascii_digit}
use Rattle.std.specs.Str.Parse.{AllDigits, digits_value}
use Rattle.std.proofs.Math.ListN.{get_or-append}
use Rattle.std.proofs.Math.Seq.{drop-append_seam, get_or-append_seam, take-append_seam}
use Rattle.std.proofs.lemmas.Bool.{and_parts, ne_eqb, not_from_false}
use Rattle.std.proofs.lemmas.Bool.Decides.{nat_tests}
use Rattle.std.specs.Cmp.Derive.{both_true}
use Rattle.std.proofs.lemmas.List.{length-append, length-take, take_all, get_or-take}
use Rattle.std.proofs.lemmas.List.Elements.{All-from_get_or}
use Rattle.std.proofs.lemmas.Str.Parse.{digit_at}
use Rattle.pipe_text.specs.Number.{AreDigits, is_number, is_spelled, number_of}
use Rattle.pipe_text.proofs.NumberLaws.{number_digits}
use Rattle.pipe_text.proofs.DecimalLaws.{is_number-from, number_shape, chosen}

none_by : (t s : Bool) (value : ℕ) → (t ≡ true → s ≡ true → ⊥) → (if t && s then Some value else None) ≡ None
none_by true true value never = absurd (never refl refl)
none_by true false value never = refl
none_by false s value never = refl

-- a word that is no number within the bound
no_number : (most : ℕ) (word : List ℕ) → (is_number word ≡ true → digits_value 10 word ≤ most → ⊥) → number_of most word ≡ None
no_number most word never =
    none_by (is_number word) (nat_le (digits_value 10 word) most) (digits_value 10 word) (λ is fits. never is (fit fits))
  where
    fit : nat_le (digits_value 10 word) most ≡ true → digits_value 10 word ≤ most
    fit fits = grind (arith, nat_tests)

-- a byte after the digits, or more digits than a number has
pub longer_than_digits : (most : ℕ) (text : List ℕ) (count value : ℕ) → AreDigits text count value → count < length text → number_of most text ≡ None
longer_than_digits most text count value are more =
    no_number most text (λ is _.
    let whole = number_digits text is in
    let range = digit_at text count whole.0 more in
    let other = are.longest more (omega arith) in
    grind (arith, nat_tests, range.0, range.1, other))

front_len : (text : List ℕ) (count : ℕ) → count ≤ length text → length (take count text) ≡ count
front_len text count within = omega (arith, length-take count text)

spelled_then : (t : Bool) (first count : ℕ) → (count == 1) ≡ t → (t || (nat_lt 1 count && not (first == 48))) ≡ true
    → (0 < count) × (first ≡ 48 → count ≡ 1)
spelled_then true first count is spelled = let one : count ≡ 1 = grind (arith, nat_tests) in (omega arith, λ z. one)
spelled_then false first count is spelled =
    let parts = and_parts (nat_lt 1 count) (not (first == 48)) spelled in
    let more : 1 < count = grind (arith, nat_tests, parts.0) in
    (omega arith, λ z. absurd (other (first == 48) parts.1 (grind (arith, nat_tests))))
  where
    other : (t : Bool) → not t ≡ true → t ≡ true → ⊥
    other true un is = cc
    other false un is = cc

spelled_from : (t : Bool) (first count : ℕ) → (count == 1) ≡ t → 0 < count → (first ≡ 48 → count ≡ 1)
    → (t || (nat_lt 1 count && not (first == 48))) ≡ true
spelled_from true first count is some alone = refl
spelled_from false first count is some alone =
    let more : nat_lt 1 count ≡ true = grind (arith, nat_tests) in
    both_true more (not_from_false (first == 48) (ne_eqb first 48 (λ z. let one = alone z in absurd (grind (arith, nat_tests)))))

-- digits that are a number
pub digits_spell : (most : ℕ) (text : List ℕ) (count value : ℕ) → AreDigits text count value → is_spelled text count ≡ true
    → value ≤ most → number_of most (take count text) ≡ Some value
digits_spell most text count value are spelled fits =
    let shape = spelled_then (count == 1) (get_or text 0 0) count refl spelled in
    let some = shape.0 in
    let alone = shape.1 in
    let long = front_len text count are.within in
    let first : get_or (take count text) 0 0 ≡ get_or text 0 0 = get_or-take count text 0 0 some in
    let is : is_number (take count text) ≡ true
    = is_number-from (take count text) are.digits (omega (arith, long)) (omega (arith, long, are.few)) (λ z. long ∙ alone (sym first ∙ z)) in
    let below : digits_value 10 (take count text) ≤ most = omega (arith, are.value_is) in
    let test : nat_le (digits_value 10 (take count text)) most ≡ true = grind (arith, nat_tests, below) in
    ap (λ t. if t then Some (digits_value 10 (take count text)) else None) (both_true is test) ∙ ap Some (sym are.value_is)

digits_spell_none : (most : ℕ) (text : List ℕ) (count value : ℕ) → AreDigits text count value
    → (0 < count → (get_or text 0 0 ≡ 48 → count ≡ 1) → value ≤ most → ⊥) → number_of most text ≡ None
digits_spell_none most text count value are never = by_end (nat_lt count (length text)) refl
  where
    by_end : (t : Bool) → nat_lt count (length text) ≡ t → number_of most text ≡ None
    by_end true is = longer_than_digits most text count value are (grind (arith, nat_tests))
    by_end false is =
        let all : length text ≡ count = grind (arith, nat_tests, are.within) in
        let whole : take count text ≡ text = take_all count text (omega arith) in
        let same : value ≡ digits_value 10 text = are.value_is ∙ ap (digits_value 10) whole in
        no_number most text (λ is fits.
        let shape = number_shape text is in
        never (omega (arith, shape.0)) (λ z. sym all ∙ shape.1 z) (omega (arith, same, fits)))

-- digits that are none, or begin with a zero
pub unspelled_digits : (most : ℕ) (text : List ℕ) (count value : ℕ) → AreDigits text count value → is_spelled text count ≡ false → number_of most text ≡ None
unspelled_digits most text count value are unspelled =
    digits_spell_none most text count value are (λ some alone _.
    let spelled = spelled_from (count == 1) (get_or text 0 0) count refl some alone in absurd (cc (spelled, unspelled)))

-- digits of a value above the bound
pub digits_above : (most : ℕ) (text : List ℕ) (count value : ℕ) → AreDigits text count value → most < value → number_of most text ≡ None
digits_above most text count value are above = digits_spell_none most text count value are (λ some alone fits. omega arith)

-- digits and then this byte, which is none, are the digits at the front
word_len : (text word after : List ℕ) (stop count value : ℕ) → AreDigits text count value → is_ascii_digit stop ≡ false
    → text ≡ word ++ stop ∷ after → AllDigits 10 word → length word ≤ 15 → count ≡ length word
word_len text word after stop count value are other split digits few = by_order (nat_lt count (length word)) (nat_lt (length word) count) refl refl
  where
    long : length text ≡ length word + length (stop ∷ after)
    long = ap length split ∙ length-append word (stop ∷ after)

    by_order : (s t : Bool) → nat_lt count (length word) ≡ s → nat_lt (length word) count ≡ t → count ≡ length word
    by_order true t less more =
        let below : count < length word = grind (arith, nat_tests) in
        let here : get_or text count 0 ≡ get_or word count 0
        = ap (λ (bytes : List ℕ). get_or bytes count 0) split ∙ get_or-append word (stop ∷ after) 0 count below in
        let range = digit_at word count digits below in
        let ends = are.longest (omega (arith, long)) (omega arith) in
        absurd (grind (arith, nat_tests, range.0, range.1, ends, here))
    by_order false true less more =
        let above : length word < count = grind (arith, nat_tests) in
        let seam : get_or text (length word) 0 ≡ stop
        = ap (λ (bytes : List ℕ). get_or bytes (length word) 0) split ∙ get_or-append_seam word stop after 0 in
        let here : get_or (take count text) (length word) 0 ≡ stop = get_or-take count text (length word) 0 above ∙ seam in
        let range = digit_at (take count text) (length word) are.digits (omega (arith, front_len text count are.within)) in
        absurd (grind (arith, nat_tests, range.0, range.1, other, here))
    by_order false false less more = grind (arith, nat_tests)

-- no word before this byte, which is no digit, is a number, unless it is the digits at the front
no_word_before : (most : ℕ) (text word after : List ℕ) (stop count value : ℕ) → AreDigits text count value → is_ascii_digit stop ≡ false
    → text ≡ word ++ stop ∷ after
    → (count ≡ length word → value ≡ digits_value 10 word → is_number word ≡ true → value ≤ most → ⊥) → number_of most word ≡ None
no_word_before most text word after stop count value are other split never =
    no_number most word (λ is fits.
    let whole = number_digits word is in
    let same = word_len text word after stop count value are other split whole.0 whole.1 in
    let front : take count text ≡ word = ap (take count) split ∙ take_word same in
    let value_same : value ≡ digits_value 10 word = are.value_is ∙ ap (digits_value 10) front in
    never same value_same is (omega (arith, value_same, fits)))
  where
    take_word : count ≡ length word → take count (word ++ stop ∷ after) ≡ word
    take_word same = ap (λ (n : ℕ). take n (word ++ stop ∷ after)) same ∙ take-append_seam word (stop ∷ after)

-- digits that are none, or begin with a zero, before this byte
pub unspelled_before : (most : ℕ) (text word after : List ℕ) (stop count value : ℕ) → AreDigits text count value → is_spelled text count ≡ false
    → is_ascii_digit stop ≡ false → text ≡ word ++ stop ∷ after → number_of most word ≡ None
unspelled_before most text word after stop count value are unspelled other split =
    no_word_before most text word after stop count value are other split (λ same value_same is fits.
    let shape = number_shape word is in
    let first : get_or text 0 0 ≡ get_or word 0 0
    = ap (λ (bytes : List ℕ). get_or bytes 0 0) split ∙ get_or-append word (stop ∷ after) 0 0 shape.0 in
    let spelled = spelled_from (count == 1) (get_or text 0 0) count refl (omega (arith, shape.0, same)) (λ z. same ∙ shape.1 (sym first ∙ z)) in
    absurd (cc (spelled, unspelled)))

-- digits of a value above the bound, before this byte
pub above_before : (most : ℕ) (text word after : List ℕ) (stop count value : ℕ) → AreDigits text count value → most < value
    → is_ascii_digit stop ≡ false → text ≡ word ++ stop ∷ after → number_of most word ≡ None
above_before most text word after stop count value are above other split =
    no_word_before most text word after stop count value are other split (λ same value_same is fits. omega arith)

-- digits and then another byte, or none
pub other_before : (most : ℕ) (text word after : List ℕ) (stop count value : ℕ) → AreDigits text count value
    → (drop count text ≡ stop ∷ after → ⊥) → is_ascii_digit stop ≡ false → text ≡ word ++ stop ∷ after → number_of most word ≡ None
other_before most text word after stop count value are never other split =
    no_word_before most text word after stop count value are other split (λ same value_same is fits.
    never (ap (drop count) split ∙ rest same))
  where
    rest : count ≡ length word → drop count (word ++ stop ∷ after) ≡ stop ∷ after
    rest same = ap (λ (n : ℕ). drop n (word ++ stop ∷ after)) same ∙ drop-append_seam word (stop ∷ after)

-- a number has a byte, and each is above the space
pub number_plain : (most value : ℕ) (word : List ℕ) → number_of most word ≡ Some value → All (λ byte. 32 < byte) word × (0 < length word)
number_plain most value word spelled =
    let is = (and_parts (is_number word) (nat_le (digits_value 10 word) most) (chosen _ _ _ spelled).0).0 in (
      All-from_get_or (λ byte. 32 < byte) word 0 (λ i within.
          let range = digit_at word i (number_digits word is).0 within in omega (arith, range.0)),
      (number_shape word is).0,
    )
