-- Names in texts.
use Rattle.std.specs.Prelude.{ℕ, List, [], slice_index_or}

-- the name of a host, which is empty where it has none
abbrev pub name_of : List (List ℕ) → ℕ → List ℕ
name_of names host = slice_index_or names host []
