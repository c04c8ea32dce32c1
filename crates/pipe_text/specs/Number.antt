-- Numbers in their one spelling.
use Rattle.std.specs.Prelude.{◌≡◌, ℕ, ◌<◌, ◌≤◌, ◌==◌, ◌&&◌, ◌||◌, not, nat_le, nat_lt, Bool, false, if◌then◌else◌, List, [], ◌∷◌, length, take, slice_index, Option, Some, None}
use Rattle.std.specs.Char.{is_ascii_digit}
use Rattle.std.specs.List.{list_all}
use Rattle.std.specs.Str.Parse.{AllDigits, digits_value}

-- `0`, or a digit from 1 to 9 and at most fourteen digits more
abbrev pub is_number : List ℕ → Bool
is_number [] = false
is_number (first ∷ rest) = if first == 48 then length rest == 0 else is_ascii_digit first && (nat_lt (length rest) 15 && list_all is_ascii_digit rest)

-- the number that a word spells, where it is at most this bound
abbrev pub number_of : ℕ → List ℕ → Option ℕ
number_of most word = if is_number word && nat_le (digits_value 10 word) most then Some (digits_value 10 word) else None

-- so many bytes at the front of the text are digits of this value; they end at a byte that is no digit, or where they are as
-- many as a number has
pub record AreDigits (text : List ℕ) (count value : ℕ) : Type 0 where
  pub within : count ≤ length text
  pub few : count ≤ 15
  pub digits : AllDigits 10 (take count text)
  pub value_is : value ≡ digits_value 10 (take count text)
  pub longest : count < length text → count < 15 → is_ascii_digit (slice_index text count) ≡ false

-- one digit, or more that do not begin with a zero
abbrev pub is_spelled : List ℕ → ℕ → Bool
is_spelled text count = (count == 1) || (nat_lt 1 count && not (slice_index text 0 == 48))
