-- The lines of a text with the bytes that end them.
use Rattle.std.specs.Prelude.{ℕ, ◌==◌, if◌then◌else◌, List, [], ◌∷◌}
use Rattle.std.specs.List.{onto_first}

-- a text cut behind each line feed
abbrev pub pieces : List ℕ → List (List ℕ)
pieces [] = []
pieces (byte ∷ text) = if byte == 10 then (byte ∷ []) ∷ pieces text else onto_first byte (pieces text)
