-- The names of hosts and switches.
use Rattle.std.specs.Prelude.{ℕ, ◌==◌, ◌&&◌, ◌||◌, not, nat_le, nat_lt, Bool, false, List, [], ◌∷◌, length, codes}
use Rattle.std.specs.Char.{is_ascii_digit}
use Rattle.std.specs.List.{list_all}
use Rattle.std.specs.Str.{bytes_eq}

-- `a` to `z`
abbrev pub is_letter : ℕ → Bool
is_letter byte = nat_le 97 byte && nat_le byte 122

-- a lower-case letter, a digit, `-` or `_`
abbrev pub is_name_byte : ℕ → Bool
is_name_byte byte = is_letter byte || (is_ascii_digit byte || ((byte == 45) || (byte == 95)))

-- 1 to 16 such bytes, of which the first is a letter, and not `controller`
abbrev pub is_name : List ℕ → Bool
is_name [] = false
is_name (first ∷ rest) =
    is_letter first && (nat_lt (length rest) 16 && (list_all is_name_byte rest && not (bytes_eq (first ∷ rest) (codes "controller"))))
