-- Lines whose words spaces alone separate.
use Rattle.std.proofs.Common.{suc, ◌≡◌, ◌≢◌, ◌==◌, ℕ, ◌-◌, ◌<◌, ◌≤◌, Bool, true, false, not, List, [], ◌∷◌, ◌++◌, length, take, get_or, All, filter, refl, sym, ap, ◌∙◌, arith, append_assoc, append-nil, if◌then◌else◌}
use Rattle.std.specs.List.{slice_split, onto_first}
use Rattle.std.specs.Str.Lines.{lines, lines_of_parts, strip_carriage_return}
use Rattle.std.proofs.lemmas.List.{length-append}
use Rattle.std.proofs.lemmas.List.Splits.{slice_split_at, slice_split_none, slice_split-cons_no, slice_split-cons_yes, length-slice_split}
use Rattle.std.proofs.lemmas.List.Elements.{All-head, All-tail, All-weaker}
use Rattle.std.proofs.lemmas.Bool.{ne_eqb}
use Rattle.std.proofs.lemmas.Bool.Decides.{nat_tests}
use Rattle.pipe_text.specs.Words.{is_blank, words_of, word_before, IsLineRead}
use Rattle.pipe_text.proofs.LineLaws.{before_feed}

-- ---- a byte before a line

-- a line without the byte at a place, where that is a carriage return, and what follows it
abbrev cut_at : ℕ → List ℕ → List ℕ
cut_at i part = if get_or part i 0 == 13 then take i part else part

cut_onto : (t : Bool) (byte i : ℕ) (part : List ℕ) → (if t then byte ∷ take i part else byte ∷ part) ≡ byte ∷ (if t then take i part else part)
cut_onto true byte i part = refl
cut_onto false byte i part = refl

-- a byte that is no carriage return stays before the line without its return
strip_onto : (byte : ℕ) (part : List ℕ) → byte ≢ 13 → strip_carriage_return (byte ∷ part) ≡ byte ∷ strip_carriage_return part
strip_onto byte [] other = ap (λ t. if t then [] else byte ∷ []) (ne_eqb byte 13 other)
strip_onto byte (next ∷ part) other =
    let last : length (byte ∷ next ∷ part) - 1 ≡ suc (length (next ∷ part) - 1) = omega arith in
    ap (λ i. cut_at i (byte ∷ next ∷ part)) last
    ∙ cut_onto (get_or (next ∷ part) (length (next ∷ part) - 1) 0 == 13) byte (length (next ∷ part) - 1) (next ∷ part)

last_part : (part : List ℕ) → 0 < length part → lines_of_parts (part ∷ []) ≡ part ∷ []
last_part part some = ap (λ t. if t then [] else part ∷ []) (ne_eqb (length part) 0 (λ z. omega arith))

-- a byte before the first part is one before the first line
line_onto : (byte : ℕ) (parts : List (List ℕ)) (line : List ℕ) (more : List (List ℕ)) → byte ≢ 13
    → lines_of_parts parts ≡ line ∷ more → lines_of_parts (onto_first byte parts) ≡ (byte ∷ line) ∷ more
line_onto byte [] line more other is = absurd cc
line_onto byte ([] ∷ []) line more other is = absurd cc
line_onto byte ((next ∷ part) ∷ []) line more other is =
    last_part (byte ∷ next ∷ part) (omega arith) ∙ ap (onto_first byte) (sym (last_part (next ∷ part) (omega arith)) ∙ is)
line_onto byte (part ∷ next ∷ parts) line more other is =
    ap (λ p. p ∷ lines_of_parts (next ∷ parts)) (strip_onto byte part other) ∙ ap (onto_first byte) is

byte_onto_line : (byte : ℕ) (text line : List ℕ) (more : List (List ℕ)) → byte ≢ 10 → byte ≢ 13
    → lines text ≡ line ∷ more → lines (byte ∷ text) ≡ (byte ∷ line) ∷ more
byte_onto_line byte text line more no_feed no_return is =
    ap lines_of_parts (slice_split-cons_no (λ b. b == 10) byte text (ne_eqb byte 10 no_feed))
    ∙ line_onto byte (slice_split (λ b. b == 10) text) line more no_return is

-- the bytes of a word
word_onto_line : (word text line : List ℕ) (more : List (List ℕ)) → All (λ byte. 32 < byte) word
    → lines text ≡ line ∷ more → lines (word ++ text) ≡ (word ++ line) ∷ more
word_onto_line [] text line more plain is = is
word_onto_line (byte ∷ word) text line more plain is =
    let above : 32 < byte = All-head (λ b. 32 < b) byte word plain in
    byte_onto_line byte (word ++ text) (word ++ line) more (λ e. omega arith) (λ e. omega arith)
    (word_onto_line word text line more (All-tail (λ b. 32 < b) byte word plain) is)

-- a line feed alone is an empty line
empty_line : (after : List ℕ) → lines (10 ∷ after) ≡ [] ∷ lines after
empty_line after =
    ap lines_of_parts (slice_split-cons_yes (λ b. b == 10) 10 after refl)
    ∙ before_feed [] (slice_split (λ b. b == 10) after) (omega (arith, length-slice_split (λ b. b == 10) after))

-- ---- a word before others

blank_not : (byte : ℕ) → 32 < byte → is_blank byte ≡ false
blank_not byte above = grind (arith, nat_tests)

no_blanks : (word : List ℕ) → All (λ byte. 32 < byte) word → All (λ byte. is_blank byte ≡ false) word
no_blanks word plain = All-weaker (λ byte. 32 < byte) (λ byte. is_blank byte ≡ false) blank_not word plain

words_of_two : (word line : List ℕ) → All (λ byte. 32 < byte) word → words_of (word ++ 32 ∷ line) ≡ word_before word (words_of line)
words_of_two word line plain =
    ap (filter (λ part. not (length part == 0))) (slice_split_at is_blank word 32 line (no_blanks word plain) refl)

words_of_one : (word : List ℕ) → All (λ byte. 32 < byte) word → words_of word ≡ word_before word []
words_of_one word plain = ap (filter (λ part. not (length part == 0))) (slice_split_none is_blank word (no_blanks word plain))

-- ---- the walk over the words

-- whatever the first line of the rest is, the text has a first line with these words and then those of that line
abbrev pub Continues : List ℕ → List ℕ → List (List ℕ) → Type 0
Continues text rest words = (line : List ℕ) (more : List (List ℕ)) → lines rest ≡ line ∷ more
    → (whole : List ℕ) × (lines text ≡ whole ∷ more) × (words_of whole ≡ words ++ words_of line)

joined : (t : Bool) (words later : List (List ℕ)) (word : List ℕ)
    → words ++ (if t then word ∷ later else later) ≡ (words ++ (if t then word ∷ [] else [])) ++ later
joined true words later word = sym (append_assoc words (word ∷ []) later)
joined false words later word = ap (λ ws. ws ++ later) (sym (append-nil words))

pub continues_after_space : (text rest word after : List ℕ) (words now : List (List ℕ)) → All (λ byte. 32 < byte) word
    → rest ≡ word ++ 32 ∷ after → now ≡ words ++ word_before word [] → Continues text rest words → Continues text after now
continues_after_space text rest word after words now plain split now_is so_far line more is =
    let longer : lines rest ≡ (word ++ 32 ∷ line) ∷ more
    = ap lines split ∙ word_onto_line word (32 ∷ after) (32 ∷ line) more plain (byte_onto_line 32 after line more (λ e. omega arith) (λ e. omega arith) is) in
    let found = so_far (word ++ 32 ∷ line) more longer in (
      found.0,
      found.1,
      found.2 ∙ ap (λ ws. words ++ ws) (words_of_two word line plain) ∙ joined (not (length word == 0)) words (words_of line) word
          ∙ ap (λ ws. ws ++ words_of line) (sym now_is),
    )

pub shorter : (rest word after : List ℕ) (stop : ℕ) {n : ℕ} → rest ≡ word ++ stop ∷ after → length rest ≤ n → length after < n
shorter rest word after stop split within = omega (arith, ap length split, length-append word (stop ∷ after), within)

pub read_at_feed : (text rest word after : List ℕ) (words now : List (List ℕ)) → All (λ byte. 32 < byte) word
    → rest ≡ word ++ 10 ∷ after → now ≡ words ++ word_before word [] → length rest ≤ length text → Continues text rest words → IsLineRead text after now
read_at_feed text rest word after words now plain split now_is within so_far =
    let last : lines rest ≡ (word ++ []) ∷ lines after
    = ap lines split ∙ word_onto_line word (10 ∷ after) [] (lines after) plain (empty_line after) in
    let found = so_far (word ++ []) (lines after) last in (
      found.0,
      found.1,
      now_is ∙ ap (λ ws. words ++ ws) (sym (words_of_one word plain) ∙ ap words_of (sym (append-nil word))) ∙ sym found.2,
      shorter rest word after 10 split within,
    )

-- ---- a line of three words

from_start : (text : List ℕ) → Continues text text []
from_start text line more is = (line, is, refl)

one_word : (word : List ℕ) → 0 < length word → word_before word [] ≡ word ∷ []
one_word word some = ap (λ t. if not t then word ∷ [] else []) (ne_eqb (length word) 0 (λ z. omega arith))

next_word : (words : List (List ℕ)) (word : List ℕ) → 0 < length word → words ++ word ∷ [] ≡ words ++ word_before word []
next_word words word some = ap (λ ws. words ++ ws) (sym (one_word word some))

after_word : (word after : List ℕ) (stop : ℕ) → length after ≤ length (word ++ stop ∷ after)
after_word word after stop = omega (arith, length-append word (stop ∷ after))

-- three words that one space each separates, and a line feed
pub three_words_read : (text a b c rest : List ℕ) → text ≡ a ++ 32 ∷ (b ++ 32 ∷ (c ++ 10 ∷ rest))
    → All (λ byte. 32 < byte) a × (0 < length a) → All (λ byte. 32 < byte) b × (0 < length b) → All (λ byte. 32 < byte) c × (0 < length c)
    → IsLineRead text rest (a ∷ b ∷ c ∷ [])
three_words_read text a b c rest split first second third =
    let one = continues_after_space text text a (b ++ 32 ∷ (c ++ 10 ∷ rest)) [] (a ∷ []) first.0 split (next_word [] a first.1) (from_start text) in
    let two = continues_after_space text (b ++ 32 ∷ (c ++ 10 ∷ rest)) b (c ++ 10 ∷ rest) (a ∷ []) (a ∷ b ∷ []) second.0 refl (next_word (a ∷ []) b second.1) one in
    let within : length (c ++ 10 ∷ rest) ≤ length text
    = omega (arith, ap length split, after_word a (b ++ 32 ∷ (c ++ 10 ∷ rest)) 32, after_word b (c ++ 10 ∷ rest) 32) in
    read_at_feed text (c ++ 10 ∷ rest) c rest (a ∷ b ∷ []) (a ∷ b ∷ c ∷ []) third.0 refl (next_word (a ∷ b ∷ []) c third.1) within two
