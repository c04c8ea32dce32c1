-- Writing into a buffer, one part behind the other.
use Rattle.std.proofs.Common.{◌≡◌, ℕ, ◌+◌, List, ◌++◌, length, take, drop, sym, ap, ◌∙◌, refl, zero-add}
use Rattle.std.proofs.lemmas.List.{length-append, take_at, drop_at, drop-drop}

-- a text at the front of a buffer, and then more behind it
pub put-behind : (old now text bytes : List ℕ) → now ≡ text ++ drop (length text) old
    → take (length text) now ++ bytes ++ drop (length text + length bytes) now ≡ (text ++ bytes) ++ drop (length text + length bytes) old
put-behind old now text bytes is =
    let front : take (length text) now ≡ text = ap (take (length text)) is ∙ take_at text (drop (length text) old) (length text) refl in
    let rest : drop (length text) now ≡ drop (length text) old = ap (drop (length text)) is ∙ drop_at text (drop (length text) old) (length text) refl in
    let back : drop (length text + length bytes) now ≡ drop (length text + length bytes) old =
    sym (drop-drop (length bytes) (length text) now) ∙ ap (drop (length bytes)) rest ∙ drop-drop (length bytes) (length text) old in
    ap (λ (xs : List ℕ). xs ++ bytes ++ drop (length text + length bytes) now) front ∙ ap (λ (xs : List ℕ). text ++ bytes ++ xs) back

-- a text at the front of a buffer
pub put-first : (old now text : List ℕ) → now ≡ take 0 old ++ text ++ drop (0 + length text) old → now ≡ text ++ drop (length text) old
put-first old now text is = is ∙ ap (λ (n : ℕ). text ++ drop n old) (zero-add (length text))

-- two texts, one behind the other
pub put-both : (n : ℕ) (old now new first second : List ℕ) → length first ≡ n → now ≡ take 0 old ++ first ++ drop (0 + length first) old
    → new ≡ take n now ++ second ++ drop (n + length second) now → new ≡ (first ++ second) ++ drop (n + length second) old
put-both n old now new first second len front back =
    let placed : new ≡ take (length first) now ++ second ++ drop (length first + length second) now =
    back ∙ ap (λ (k : ℕ). take k now ++ second ++ drop (k + length second) now) (sym len) in
    placed ∙ put-behind old now first second (put-first old now first front)
    ∙ ap (λ (k : ℕ). (first ++ second) ++ drop (k + length second) old) len

-- one field more behind a text, as it is known
pub put-field : (old now new text bytes field : List ℕ) → bytes ≡ field → now ≡ text ++ drop (length text) old
    → new ≡ take (length text) now ++ bytes ++ drop (length text + length bytes) now → new ≡ (text ++ field) ++ drop (length (text ++ field)) old
put-field old now new text bytes field same so_far put =
    let known : new ≡ take (length text) now ++ field ++ drop (length text + length field) now =
    put ∙ ap (λ (xs : List ℕ). take (length text) now ++ xs ++ drop (length text + length xs) now) same in
    known ∙ put-behind old now text field so_far ∙ ap (λ (n : ℕ). (text ++ field) ++ drop n old) (sym (length-append text field))
