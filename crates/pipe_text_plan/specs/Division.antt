-- The two parts of an input: the topology, and what comes after it.
use Rattle.std.specs.Prelude.{ℕ, ◌+◌, ◌||◌, Bool, true, false, if◌then◌else◌, List, [], ◌∷◌, drop, take, codes, position, Option, None, Some}
use Rattle.std.specs.List.{concat}
use Rattle.std.specs.Str.{bytes_eq}
use Rattle.std.specs.Str.Lines.{lines}
use Rattle.pipe_text.specs.Words.{words_of}
use Rattle.pipe_text_plan.specs.Pieces.{pieces}

-- the two parts of an input
pub record Division : Type 0 where
  -- the topology is the line of a star
  pub star : Bool
  -- that line, or what is before the mark
  pub topology : List ℕ
  -- what comes after the line or the mark
  pub rest : List ℕ
  -- the number of the first line of the rest, counted from 1
  pub line : ℕ

-- exactly `---`, with a line's end or at the end of the input
abbrev pub is_mark : List ℕ → Bool
is_mark piece = bytes_eq piece (codes "---\n") || (bytes_eq piece (codes "---\r\n") || bytes_eq piece (codes "---"))

-- the parts before and after a mark
abbrev pub marked_at : List (List ℕ) → Option ℕ → Option Division
marked_at all None = None
marked_at all (Some mark) = Some (record { star = false; topology = concat (take mark all); rest = concat (drop (mark + 1) all); line = mark + 2 })

-- The first mark divides the input.
abbrev pub marked : List (List ℕ) → Option Division
marked all = marked_at all (position is_mark all)

-- the line's first word is `star`
abbrev pub is_star : List (List ℕ) → Bool
is_star [] = false
is_star (first ∷ words) = bytes_eq first (codes "star")

-- The line of a star divides the input, where it is the first; else the mark does.
abbrev pub division_by : List (List ℕ) → List (List ℕ) → Option Division
division_by [] all = marked all
division_by (line ∷ more) all =
    if is_star (words_of line) then Some (record { star = true; topology = line; rest = concat (drop 1 all); line = 2 }) else marked all

-- the parts of an input, where it has any
abbrev pub division_of : List ℕ → Option Division
division_of input = division_by (lines input) (pieces input)
