-- Lemmas on lists that are built item by item from those that pass a test.
use Rattle.std.proofs.Common.{◌≡◌, ℕ, suc, ◌+◌, ◌-◌, ◌<◌, Bool, true, false, if◌then◌else◌, List, [], ◌∷◌, ◌++◌, map, filter, flat_map, refl, sym, ap, ◌∙◌, arith}
use Rattle.std.specs.List.{list_all, range_with_len}
use Rattle.std.proofs.lemmas.List.{append_assoc}
use Rattle.std.proofs.lemmas.List.Concat.{flat_map-cons}

-- the numbers from one on, as names
pub from_next : {A : Type 0} (name : ℕ → A) (n end : ℕ) → n < end → map name (range_with_len n (end - n)) ≡ name n ∷ map name (range_with_len (n + 1) (end - (n + 1)))
from_next name n end lt =
    let e : end - n ≡ suc (end - (n + 1)) = omega arith in
    ap (λ (k : ℕ). map name (range_with_len n k)) e

pub turn_in : {A B : Type 0} (f : A → B) (p : A → Bool) (put : List B) (x : A) (xs : List A) → p x ≡ true
    → put ++ map f (filter p (x ∷ xs)) ≡ (put ++ f x ∷ []) ++ map f (filter p xs)
turn_in f p put x xs is = rw is (sym (append_assoc put (f x ∷ []) (map f (filter p xs))))

pub turn_out : {A B : Type 0} (f : A → B) (p : A → Bool) (put : List B) (x : A) (xs : List A) → p x ≡ false
    → put ++ map f (filter p (x ∷ xs)) ≡ put ++ map f (filter p xs)
turn_out f p put x xs isnt = rw isnt refl

pub pass_in : {A : Type 0} (p : A → Bool) (put : List A) (x : A) (xs : List A) → p x ≡ true → put ++ filter p (x ∷ xs) ≡ (put ++ x ∷ []) ++ filter p xs
pass_in p put x xs is = rw is (sym (append_assoc put (x ∷ []) (filter p xs)))

pub pass_out : {A : Type 0} (p : A → Bool) (put : List A) (x : A) (xs : List A) → p x ≡ false → put ++ filter p (x ∷ xs) ≡ put ++ filter p xs
pass_out p put x xs isnt = rw isnt refl

pub all_less : {A : Type 0} (p : A → Bool) (x : A) (xs : List A) → p x ≡ true → list_all p (x ∷ xs) ≡ list_all p xs
all_less p x xs is = rw is refl

pub none_all : {A : Type 0} (p : A → Bool) (x : A) (xs : List A) → p x ≡ false → list_all p (x ∷ xs) ≡ false
none_all p x xs isnt = rw isnt refl

-- what all that are due give, after what is put already; or nothing, where one of them can't
abbrev pub going : {A B : Type 0} → (A → Bool) → (A → Bool) → (A → List B) → List B → List A → List B
going due can gives put xs = if list_all can (filter due xs) then put ++ flat_map gives (filter due xs) else []

pub going_past : {A B : Type 0} (due can : A → Bool) (gives : A → List B) (put : List B) (x : A) (xs : List A) → due x ≡ false
    → going due can gives put (x ∷ xs) ≡ going due can gives put xs
going_past due can gives put x xs isnt = rw isnt refl

pub going_none : {A B : Type 0} (due can : A → Bool) (gives : A → List B) (put : List B) (x : A) (xs : List A) → due x ≡ true → can x ≡ false
    → going due can gives put (x ∷ xs) ≡ []
going_none due can gives put x xs is cannot = rw (is, cannot) refl

pub going_with : {A B : Type 0} (due can : A → Bool) (gives : A → List B) (put : List B) (x : A) (xs : List A) (y : B) → due x ≡ true → can x ≡ true → gives x ≡ y ∷ []
    → going due can gives put (x ∷ xs) ≡ going due can gives (put ++ y ∷ []) xs
going_with {A} {B} due can gives put x xs y is may gives_is =
    rw (is, may) (ap (λ (zs : List B). if list_all can (filter due xs) then zs else []) joined)
  where
    joined : put ++ flat_map gives (x ∷ filter due xs) ≡ (put ++ y ∷ []) ++ flat_map gives (filter due xs)
    joined =
        ap (λ (zs : List B). put ++ zs) (flat_map-cons gives x (filter due xs) ∙ ap (λ (ys : List B). ys ++ flat_map gives (filter due xs)) gives_is)
        ∙ sym (append_assoc put (y ∷ []) (flat_map gives (filter due xs)))
