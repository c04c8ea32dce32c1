-- Lines as lists of words.
use Rattle.std.specs.Prelude.{ℕ, List, [], ◌∷◌, ◌++◌, codes}
use Rattle.std.specs.List.{flat_map}

-- a word that follows another one on its line
abbrev pub next_word : List ℕ → List ℕ
next_word word = codes " " ++ word

-- the words that follow the first one
abbrev pub next_words : List (List ℕ) → List ℕ
next_words words = flat_map next_word words

-- a line: its words with single spaces between them, and a line feed
abbrev pub line_text : List (List ℕ) → List ℕ
line_text [] = codes "\n"
line_text (first ∷ words) = first ++ next_words words ++ codes "\n"

-- lines, one after the other
abbrev pub lines_text : List (List (List ℕ)) → List ℕ
lines_text lines = flat_map line_text lines
