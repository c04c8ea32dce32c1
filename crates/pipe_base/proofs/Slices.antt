-- Lemmas on the parts of a list.
use Rattle.std.proofs.Common.{◌≡◌, ℕ, ◌+◌, ◌≤◌, List, ◌++◌, length, take, drop, ap, sym, ◌∙◌}
use Rattle.std.proofs.lemmas.List.{take-append-drop, drop-drop, take_at, length-take-le}

-- what was copied to the front of a buffer, and then what is left, is what was there
pub copied_and_left : (bytes rest part : List ℕ) (at n : ℕ) → n ≤ length (drop at bytes) → part ≡ take n (drop at bytes)
    → drop at bytes ≡ take n (part ++ rest) ++ drop (at + n) bytes
copied_and_left bytes rest part at n le is =
    let size : length part ≡ n = ap length is ∙ length-take-le n (drop at bytes) le in
    let front : take n (part ++ rest) ≡ take n (drop at bytes) = take_at part rest n size ∙ is in
    sym (take-append-drop n (drop at bytes))
    ∙ ap (λ (xs : List ℕ). xs ++ drop n (drop at bytes)) (sym front)
    ∙ ap (λ (xs : List ℕ). take n (part ++ rest) ++ xs) (drop-drop n at bytes)
