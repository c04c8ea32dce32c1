-- Numbers as bytes, the highest byte first: two bytes for hosts, nodes, links, counts and lengths, six for times.
use Rattle.std.specs.Prelude.{ℕ, List, ◌∷◌, take, drop}
use Rattle.std.specs.Int.{w16, w64, bytes_high_first, from_be_bytes, to_be_bytes}

-- a number in two bytes
abbrev pub two_bytes : ℕ → List ℕ
two_bytes n = to_be_bytes w16 n

-- a number in six bytes
abbrev pub six_bytes : ℕ → List ℕ
six_bytes n = bytes_high_first 6 n

-- the number that two bytes spell, from a place on
unfoldable pub two_at : ℕ → List ℕ → ℕ
two_at at bytes = from_be_bytes w16 (take 2 (drop at bytes))

-- the number that six bytes spell, from a place on
unfoldable pub six_at : ℕ → List ℕ → ℕ
six_at at bytes = from_be_bytes w64 (0 ∷ 0 ∷ take 6 (drop at bytes))
