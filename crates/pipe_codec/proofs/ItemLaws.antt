-- Items of one size in a row: read and written one by one.
use Rattle.std.proofs.Common.{◌≡◌, ℕ, suc, ◌+◌, ◌*◌, ◌<◌, ◌≤◌, List, [], ◌∷◌, ◌++◌, length, get_or, take, drop, sym, ap, ◌∙◌, arith, add-one}
use Rattle.std.specs.List.{flat_map}
use Rattle.std.proofs.Math.Nat.{mul-suc}
use Rattle.std.proofs.lemmas.List.{append-nil, append_assoc, flat_map_more, length-append, length-take-le, nil_from_length, take_more}
use Rattle.std.proofs.lemmas.List.Concat.{flat_map-append}
use Rattle.pipe_codec.proofs.PutLaws.{put-behind}

-- each item has so many bytes
abbrev pub HasSize : {X : Type 0} → (X → List ℕ) → ℕ → Type 0
HasSize {X} f size = (x : X) → length (f x) ≡ size

pub length-items : {X : Type 0} (f : X → List ℕ) (size : ℕ) → HasSize f size → (xs : List X) → length (flat_map f xs) ≡ size * length xs
length-items f size each [] = omega arith
length-items f size each (x ∷ xs) =
    let rest = length-items f size each xs in
    let first = each x in
    let more : size * suc (length xs) ≡ size * length xs + size = mul-suc size (length xs) in
    omega (arith, length-append (f x) (flat_map f xs))

-- ---- reading

-- one item more is read
pub read-more : {X : Type 0} (f : X → List ℕ) (xs : List X) (x : X) (rest after whole : List ℕ) → f x ++ after ≡ rest
    → flat_map f xs ++ rest ≡ whole → flat_map f (xs ++ x ∷ []) ++ after ≡ whole
read-more f xs x rest after whole item so_far =
    let one : flat_map f (xs ++ x ∷ []) ≡ flat_map f xs ++ f x = flat_map-append f xs (x ∷ []) ∙ ap (λ (bytes : List ℕ). flat_map f xs ++ bytes) (append-nil (f x)) in
    ap (λ (bytes : List ℕ). bytes ++ after) one ∙ append_assoc (flat_map f xs) (f x) after ∙ ap (λ (bytes : List ℕ). flat_map f xs ++ bytes) item ∙ so_far

pub all-read : (items rest whole : List ℕ) → length rest ≡ 0 → items ++ rest ≡ whole → items ≡ whole
all-read items rest whole none so_far =
    sym (append-nil items) ∙ ap (λ (bytes : List ℕ). items ++ bytes) (sym (nil_from_length rest none)) ∙ so_far

-- ---- writing

-- one item more is written behind the others
pub put-more : {X : Type 0} (f : X → List ℕ) (size : ℕ) → HasSize f size → (xs : List X) (i : ℕ) (x : X) (old now bytes : List ℕ)
    → i < length xs → 6 ≤ length old → bytes ≡ f (get_or xs i x)
    → now ≡ take 6 old ++ flat_map f (take i xs) ++ drop (6 + size * i) old
    → take (6 + size * i) now ++ bytes ++ drop (6 + size * i + length bytes) now
    ≡ take 6 old ++ flat_map f (take (i + 1) xs) ++ drop (6 + size * (i + 1)) old
put-more f size each xs i x old now bytes lt room item so_far =
    let text = take 6 old ++ flat_map f (take i xs) in
    let items : length (flat_map f (take i xs)) ≡ size * i =
    length-items f size each (take i xs) ∙ ap (λ (n : ℕ). size * n) (length-take-le i xs (omega arith)) in
    let len : length text ≡ 6 + size * i = omega (arith, length-append (take 6 old) (flat_map f (take i xs)), length-take-le 6 old room) in
    let item_len : length bytes ≡ size = ap length item ∙ each (get_or xs i x) in
    let placed : now ≡ text ++ drop (length text) old = so_far ∙ ap (λ (n : ℕ). text ++ drop n old) (sym len) in
    let end : length text + length bytes ≡ 6 + size * (i + 1) = omega (arith, mul-suc size i, ap (λ (n : ℕ). size * n) (add-one i)) in
    let longer : text ++ bytes ≡ take 6 old ++ flat_map f (take (i + 1) xs) =
    ap (λ (ys : List ℕ). text ++ ys) item ∙ flat_map_more f (take 6 old) (take i xs) (get_or xs i x)
    ∙ ap (λ ys. take 6 old ++ flat_map f ys) (sym (take_more xs i x lt)) in
    ap (λ (n : ℕ). take n now ++ bytes ++ drop (n + length bytes) now) (sym len)
    ∙ put-behind old now text bytes placed
    ∙ ap (λ (n : ℕ). (text ++ bytes) ++ drop n old) end
    ∙ ap (λ (ys : List ℕ). ys ++ drop (6 + size * (i + 1)) old) longer
