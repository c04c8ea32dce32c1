-- Lemmas on items that are read one by one.
use Rattle.std.proofs.Common.{◌≡◌, ℕ, zero, suc, ◌+◌, ◌<◌, ◌≤◌, List, [], ◌∷◌, ◌++◌, length, drop, get_or, Option, None, Some, Result, Ok, Err, refl, ap, sym, ◌∙◌, arith, append_assoc, map}
use Rattle.std.proofs.lemmas.List.{append-nil}
use Rattle.pipe_text_plan.specs.ReadAll.{read_onto, read_all}

-- what was read of so many items, and then what is read of the rest
abbrev pub read_after : {B : Type 0} → ℕ → List B → Result (List B) ℕ → Result (List B) ℕ
read_after count done (Err at) = Err (count + at)
read_after count done (Ok more) = Ok (done ++ more)

one_more : {B : Type 0} (n : ℕ) (done : List B) (next : B) (rest : Result (List B) ℕ)
    → read_after n done (read_onto (Some next) rest) ≡ read_after (n + 1) (done ++ next ∷ []) rest
one_more n done next (Err at) = let place : n + suc at ≡ (n + 1) + at = omega arith in ap Err place
one_more n done next (Ok more) = ap Ok (sym (append_assoc done (next ∷ []) more))

pub read_more : {A B : Type 0} (read : A → Option B) (items : List A) (n : ℕ) (item : A) (done : List B) (next : B)
    → read_all read items ≡ read_after n done (read_all read (drop n items)) → drop n items ≡ item ∷ drop (n + 1) items
    → read item ≡ Some next → read_all read items ≡ read_after (n + 1) (done ++ next ∷ []) (read_all read (drop (n + 1) items))
read_more read items n item done next so_far split is =
    so_far
    ∙ ap (λ (xs : List _). read_after n done (read_all read xs)) split
    ∙ ap (λ o. read_after n done (read_onto o (read_all read (drop (n + 1) items)))) is
    ∙ one_more n done next (read_all read (drop (n + 1) items))

pub read_stop : {A B : Type 0} (read : A → Option B) (items : List A) (n : ℕ) (item : A) (done : List B)
    → read_all read items ≡ read_after n done (read_all read (drop n items)) → drop n items ≡ item ∷ drop (n + 1) items
    → read item ≡ None → read_all read items ≡ Err n
read_stop read items n item done so_far split is =
    let place : n + 0 ≡ n = omega arith in
    so_far
    ∙ ap (λ (xs : List _). read_after n done (read_all read xs)) split
    ∙ ap (λ o. read_after n done (read_onto o (read_all read (drop (n + 1) items)))) is
    ∙ ap Err place

pub read_end : {A B : Type 0} (read : A → Option B) (items : List A) (n : ℕ) (done : List B)
    → read_all read items ≡ read_after n done (read_all read (drop n items)) → drop n items ≡ [] → read_all read items ≡ Ok done
read_end read items n done so_far none =
    so_far ∙ ap (λ (xs : List _). read_after n done (read_all read xs)) none ∙ ap Ok (append-nil done)

drop_nil : {B : Type 0} (n : ℕ) → drop {A = B} n [] ≡ []
drop_nil zero = refl
drop_nil (suc n) = refl

-- what is left of a map begins with the next item
pub drop_map : {A B : Type 0} (f : A → B) (items : List A) (n : ℕ) (other : A) → n < length items
    → drop n (map f items) ≡ f (get_or items n other) ∷ drop (n + 1) (map f items)
drop_map f [] n other within = absurd (omega arith)
drop_map f (item ∷ items) zero other within = refl
drop_map f (item ∷ items) (suc n) other within =
    let next : suc n + 1 ≡ suc (n + 1) = omega arith in
    drop_map f items n other (omega arith) ∙ ap (λ (k : ℕ). f (get_or items n other) ∷ drop k (f item ∷ map f items)) (sym next)

pub drop_done : {A B : Type 0} (f : A → B) (items : List A) (n : ℕ) → length items ≤ n → drop n (map f items) ≡ []
drop_done f [] n past = drop_nil n
drop_done f (item ∷ items) zero past = absurd (omega arith)
drop_done f (item ∷ items) (suc n) past = drop_done f items n (omega arith)
