-- How many lines of a text are read.
use Rattle.std.specs.Prelude.{ℕ, not, Bool, List, count_by}
use Rattle.std.specs.Str.Lines.{lines}
use Rattle.pipe_text.specs.Words.{words_of, is_skipped}

-- the line is not skipped
abbrev pub is_read : List ℕ → Bool
is_read line = not (is_skipped (words_of line))

-- the number of lines that are not skipped
abbrev pub lines_read : List ℕ → ℕ
lines_read text = count_by is_read (lines text)
