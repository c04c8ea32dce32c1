-- Lemmas on the lines of a text with their ends.
use Rattle.std.proofs.Common.{◌≡◌, ◌==◌, ℕ, zero, suc, ◌+◌, ◌<◌, ◌≤◌, Bool, true, false, if◌then◌else◌, List, [], ◌∷◌, length, take, drop, get_or, None, Some, refl, ap, subst, sym, ◌∙◌, arith}
use Rattle.std.specs.List.{position, position_or_len, onto_first, concat}
use Rattle.std.proofs.lemmas.List.Quantifiers.{position-Some}
use Rattle.std.proofs.lemmas.List.Sums.{fails_before_first}
use Rattle.std.proofs.lemmas.Bool.Decides.{nat_tests}
use Rattle.pipe_text_plan.specs.Pieces.{pieces}

abbrev is_feed : ℕ → Bool
is_feed byte = byte == 10

onto_by : (t : Bool) (byte : ℕ) (text : List ℕ) → (byte == 10) ≡ t
    → pieces (byte ∷ text) ≡ (if t then (byte ∷ []) ∷ pieces text else onto_first byte (pieces text))
onto_by t byte text is = ap (λ t. if t then (byte ∷ []) ∷ pieces text else onto_first byte (pieces text)) is

-- the text up to the first line feed is the first piece
cut_at : (text : List ℕ) (n : ℕ) → n < length text → ((k : ℕ) → k < n → is_feed (get_or text k 0) ≡ false)
    → is_feed (get_or text n 0) ≡ true → pieces text ≡ take (suc n) text ∷ pieces (drop (suc n) text)
cut_at [] n within before here = absurd (omega arith)
cut_at (byte ∷ text) zero within before here = onto_by true byte text here
cut_at (byte ∷ text) (suc n) within before here =
    onto_by false byte text (before 0 (omega arith))
    ∙ ap (onto_first byte) (cut_at text n (omega arith) (λ k below. before (suc k) (omega arith)) here)

pub pieces_at : (text : List ℕ) (n : ℕ) → position (λ byte. byte == 10) text ≡ Some n
    → pieces text ≡ take (n + 1) text ∷ pieces (drop (n + 1) text)
pieces_at text n found =
    let at = position-Some is_feed text n 0 found in
    let next : n + 1 ≡ suc n = omega arith in
    subst (λ k. pieces text ≡ take k text ∷ pieces (drop k text)) (sym next) (cut_at text n at.0 at.2 at.1)

-- a text that is not empty and has no line feed is one piece
uncut : (text : List ℕ) → 0 < length text → ((k : ℕ) → k < length text → is_feed (get_or text k 0) ≡ false) → pieces text ≡ text ∷ []
uncut [] some none = absurd (omega arith)
uncut (byte ∷ []) some none = onto_by false byte [] (none 0 (omega arith))
uncut (byte ∷ next ∷ text) some none =
    onto_by false byte (next ∷ text) (none 0 (omega arith))
    ∙ ap (onto_first byte) (uncut (next ∷ text) (omega arith) (λ k below. none (suc k) (omega arith)))

pub pieces_none : (text : List ℕ) → 0 < length text → position (λ byte. byte == 10) text ≡ None → pieces text ≡ text ∷ []
pieces_none text some none =
    let far : length text ≤ position_or_len is_feed text = grind (arith, nat_tests) in
    uncut text some (λ k below. fails_before_first is_feed text k 0 (omega arith))

concat_onto : (byte : ℕ) (parts : List (List ℕ)) → concat (onto_first byte parts) ≡ byte ∷ concat parts
concat_onto byte [] = refl
concat_onto byte (part ∷ parts) = refl

concat_by : (t : Bool) (byte : ℕ) (text : List ℕ) → (byte == 10) ≡ t → concat (pieces text) ≡ text → concat (pieces (byte ∷ text)) ≡ byte ∷ text
concat_by true byte text is more = ap concat (onto_by true byte text is) ∙ ap (λ (xs : List ℕ). byte ∷ xs) more
concat_by false byte text is more =
    ap concat (onto_by false byte text is) ∙ concat_onto byte (pieces text) ∙ ap (λ (xs : List ℕ). byte ∷ xs) more

-- the pieces make up the text
pub concat-pieces : (text : List ℕ) → concat (pieces text) ≡ text
concat-pieces [] = refl
concat-pieces (byte ∷ text) = concat_by (byte == 10) byte text refl (concat-pieces text)
