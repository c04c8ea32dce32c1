-- Lemmas on the first word of a line.
use Rattle.std.proofs.Common.{◌≡◌, ◌==◌, not, ℕ, zero, suc, ◌+◌, ◌<◌, ◌≤◌, Bool, true, false, cond, List, [], ◌∷◌, length, take, drop, get_or, filter, slice_get, None, Some, refl, ap, subst, sym, ◌∙◌, arith, length-drop}
use Rattle.std.proofs.lemmas.Bool.{not-false, not-true}
use Rattle.std.specs.List.{position, position_or_len, slice_split, All}
use Rattle.std.proofs.lemmas.List.Splits.{slice_split-cons_yes, slice_split_first, slice_split_none}
use Rattle.std.proofs.lemmas.List.Quantifiers.{position-Some}
use Rattle.std.proofs.lemmas.List.Sums.{fails_before_first, position_or_len_is}
use Rattle.std.proofs.lemmas.List.Elements.{All-from_get_or}
use Rattle.std.proofs.lemmas.Bool.Decides.{nat_tests}
use Rattle.pipe_text.specs.Words.{is_blank, words_of}

abbrev is_some_word : List ℕ → Bool
is_some_word word = not (length word == 0)

-- a blank in front changes no word
words_skip : (byte : ℕ) (line : List ℕ) → is_blank byte ≡ true → words_of (byte ∷ line) ≡ words_of line
words_skip byte line blank = ap (filter is_some_word) (slice_split-cons_yes is_blank byte line blank)

words_drop : (line : List ℕ) (n : ℕ) → n ≤ length line → ((k : ℕ) → k < n → is_blank (get_or line k 0) ≡ true)
    → words_of line ≡ words_of (drop n line)
words_drop line zero within blank = refl
words_drop [] (suc n) within blank = absurd (omega arith)
words_drop (byte ∷ line) (suc n) within blank =
    words_skip byte line (blank 0 (omega arith)) ∙ words_drop line n (omega arith) (λ k below. blank (suc k) (omega arith))

-- the blanks before the first word
pub words_start : (line : List ℕ) (n : ℕ) → position (λ byte. not (is_blank byte)) line ≡ Some n
    → (words_of line ≡ words_of (drop n line)) × (n < length line) × (is_blank (get_or line n 0) ≡ false)
words_start line n found =
    let at = position-Some (λ byte. not (is_blank byte)) line n 0 found in (
      words_drop line n (omega (arith, at.0)) (λ k below. not-false (is_blank (get_or line k 0)) (at.2 k below)),
      at.0,
      not-true (is_blank (get_or line n 0)) at.1,
    )

drop_whole : (line : List ℕ) → drop (length line) line ≡ []
drop_whole [] = refl
drop_whole (byte ∷ line) = drop_whole line

-- a line of blanks has no word
pub words_none : (line : List ℕ) → position (λ byte. not (is_blank byte)) line ≡ None → words_of line ≡ []
words_none line none =
    let far : length line ≤ position_or_len (λ byte. not (is_blank byte)) line = grind (arith, nat_tests) in
    words_drop line (length line) (omega arith)
    (λ k below. not-false (is_blank (get_or line k 0)) (fails_before_first (λ byte. not (is_blank byte)) line k 0 (omega arith)))
    ∙ ap words_of (drop_whole line)

kept : (word : List ℕ) (words : List (List ℕ)) → 0 < length word → slice_get (filter is_some_word (word ∷ words)) 0 ≡ Some word
kept word words some =
    let test : (length word == 0) ≡ false = grind (arith, nat_tests) in
    ap (λ t. slice_get (cond (not t) (word ∷ filter is_some_word words) (filter is_some_word words)) 0) test

head_blank : (text : List ℕ) (n : ℕ) → is_blank (get_or text 0 0) ≡ false → is_blank (get_or text n 0) ≡ true → 0 < n
head_blank text zero head here = absurd cc
head_blank text (suc n) head here = omega arith

take_some : (text : List ℕ) (n : ℕ) → 0 < n → n < length text → 0 < length (take n text)
take_some [] n some within = absurd (omega arith)
take_some (byte ∷ text) zero some within = absurd (omega arith)
take_some (byte ∷ text) (suc n) some within = omega arith

-- the first word ends at the first blank
pub first_ends : (text : List ℕ) (n : ℕ) → is_blank (get_or text 0 0) ≡ false → position is_blank text ≡ Some n
    → slice_get (words_of text) 0 ≡ Some (take n text)
first_ends text n head found =
    let at = position-Some is_blank text n 0 found in
    let place : position_or_len is_blank text ≡ n = position_or_len_is is_blank text n 0 (omega (arith, at.0)) at.2 (λ _. at.1) in
    let split : slice_split is_blank text ≡ take n text ∷ slice_split is_blank (drop (n + 1) text)
    = subst (λ k. slice_split is_blank text ≡ take k text ∷ slice_split is_blank (drop (k + 1) text)) place
    (slice_split_first is_blank text 0 (omega (arith, place, at.0))) in
    ap (λ (parts : List (List ℕ)). slice_get (filter is_some_word parts) 0) split
    ∙ kept (take n text) (slice_split is_blank (drop (n + 1) text)) (take_some text n (head_blank text n head at.1) at.0)

-- or with the text
pub first_whole : (text : List ℕ) → 0 < length text → position is_blank text ≡ None → slice_get (words_of text) 0 ≡ Some text
first_whole text some none =
    let far : length text ≤ position_or_len is_blank text = grind (arith, nat_tests) in
    let no_blank : All (λ byte. is_blank byte ≡ false) text
    = All-from_get_or (λ byte. is_blank byte ≡ false) text 0 (λ i within. fails_before_first is_blank text i 0 (omega arith)) in
    ap (λ (parts : List (List ℕ)). slice_get (filter is_some_word parts) 0) (slice_split_none is_blank text no_blank) ∙ kept text [] some

head_of : (line : List ℕ) (n : ℕ) → n < length line → get_or (drop n line) 0 0 ≡ get_or line n 0
head_of [] n within = absurd (omega arith)
head_of (byte ∷ line) zero within = refl
head_of (byte ∷ line) (suc n) within = head_of line n (omega arith)

-- the first word of a line, from where it starts to where it ends
pub first_at : (line text : List ℕ) (n end : ℕ) → position (λ byte. not (is_blank byte)) line ≡ Some n → text ≡ drop n line
    → position is_blank text ≡ Some end → slice_get (words_of line) 0 ≡ Some (take end text)
first_at line text n end found is ends =
    let start = words_start line n found in
    let head : is_blank (get_or text 0 0) ≡ false
    = ap (λ (bytes : List ℕ). is_blank (get_or bytes 0 0)) is ∙ ap is_blank (head_of line n start.1) ∙ start.2 in
    ap (λ (words : List (List ℕ)). slice_get words 0) (start.0 ∙ ap words_of (sym is)) ∙ first_ends text end head ends

-- or to the end of the line
pub first_all : (line text : List ℕ) (n : ℕ) → position (λ byte. not (is_blank byte)) line ≡ Some n → text ≡ drop n line
    → position is_blank text ≡ None → slice_get (words_of line) 0 ≡ Some text
first_all line text n found is ends =
    let start = words_start line n found in
    let some : 0 < length text = omega (arith, ap length is, length-drop n line, start.1) in
    ap (λ (words : List (List ℕ)). slice_get words 0) (start.0 ∙ ap words_of (sym is)) ∙ first_whole text some ends
