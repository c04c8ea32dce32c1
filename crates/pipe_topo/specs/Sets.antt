-- Sets of numbers, as a list that has the answer for each number below its length.
use Rattle.std.specs.Prelude.{ℕ, Bool, false, not, List, slice_index_or}

-- the number is in the set
abbrev pub has : List Bool → ℕ → Bool
has set n = slice_index_or set n false

-- the number is not in the set
abbrev pub lacks : List Bool → ℕ → Bool
lacks set n = not (has set n)
