-- Bodies as lower-case hexadecimal digits, two a byte.
use Rattle.std.specs.Prelude.{ℕ, ◌+◌, ◌-◌, ◌*◌, ◌/◌, ◌%◌, ◌&&◌, nat_le, nat_lt, if◌then◌else◌, List, [], ◌∷◌, length, Option, Some, None}
use Rattle.pipe_base.specs.Limits.{most_body}

-- the value of a digit: `0` to `9` and `a` to `f`
abbrev pub hex_value : ℕ → Option ℕ
hex_value digit =
    if nat_le 48 digit && nat_le digit 57 then Some (digit - 48)
    else if nat_le 97 digit && nat_le digit 102 then Some (digit - 87)
    else None

-- the byte of two digits
abbrev pub byte_of : Option ℕ → Option ℕ → Option ℕ
byte_of (Some high) (Some low) = Some (high * 16 + low)
byte_of _ _ = None

-- a byte before others, where all are there
abbrev pub byte_onto : Option ℕ → Option (List ℕ) → Option (List ℕ)
byte_onto (Some byte) (Some bytes) = Some (byte ∷ bytes)
byte_onto _ _ = None

-- the bytes that pairs of digits spell
abbrev pub bytes_of : List ℕ → Option (List ℕ)
bytes_of [] = Some []
bytes_of (digit ∷ []) = None
bytes_of (high ∷ low ∷ rest) = byte_onto (byte_of (hex_value high) (hex_value low)) (bytes_of rest)

-- at most so many bytes as a body has
abbrev pub within_body : Option (List ℕ) → Option (List ℕ)
within_body None = None
within_body (Some bytes) = if nat_le (length bytes) most_body then Some bytes else None

-- the body that a word spells
abbrev pub body_of : List ℕ → Option (List ℕ)
body_of word = within_body (bytes_of word)

-- the digit of a value below 16
abbrev pub hex_digit : ℕ → ℕ
hex_digit value = if nat_lt value 10 then 48 + value else 87 + value

-- two digits a byte
abbrev pub hex_text : List ℕ → List ℕ
hex_text [] = []
hex_text (byte ∷ bytes) = hex_digit (byte / 16) ∷ hex_digit (byte % 16) ∷ hex_text bytes
