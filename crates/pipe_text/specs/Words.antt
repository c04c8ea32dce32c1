-- The words of a line. The lines of a text are std's `lines`.
use Rattle.std.specs.Prelude.{◌≡◌, ℕ, ◌<◌, ◌==◌, ◌||◌, not, if◌then◌else◌, Bool, true, false, List, [], ◌∷◌, length, filter}
use Rattle.std.specs.List.{slice_split}
use Rattle.std.specs.Str.Lines.{lines}

-- space and tab
abbrev pub is_blank : ℕ → Bool
is_blank byte = (byte == 32) || (byte == 9)

-- what blanks separate
abbrev pub words_of : List ℕ → List (List ℕ)
words_of line = filter (λ word. not (length word == 0)) (slice_split is_blank line)

-- `#` stands first
abbrev pub is_comment : List ℕ → Bool
is_comment [] = false
is_comment (byte ∷ bytes) = byte == 35

-- a line without words, or whose first word begins with `#`
abbrev pub is_skipped : List (List ℕ) → Bool
is_skipped [] = true
is_skipped (first ∷ words) = is_comment first

-- a word before others, unless it is empty
abbrev pub word_before : List ℕ → List (List ℕ) → List (List ℕ)
word_before word words = if not (length word == 0) then word ∷ words else words

-- these are the words of the first line of the text, and the rest is what comes after that line
abbrev pub IsLineRead : List ℕ → List ℕ → List (List ℕ) → Type 0
IsLineRead text rest words = (line : List ℕ) × (lines text ≡ line ∷ lines rest) × (words ≡ words_of line) × (length rest < length text)
