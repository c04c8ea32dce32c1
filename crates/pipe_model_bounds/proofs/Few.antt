-- Lists of different things with numbers below a bound are no longer than the bound.
use Rattle.std.proofs.Common.{◌≡◌, ◌≢◌, ℕ, ◌<◌, ◌≤◌, ◌==◌, Bool, true, List, [], ◌∷◌, ◌++◌, length, get_or, map, refl, inl, inr, sym, subst, true≢false, eqb-true, arith}
use Rattle.std.specs.List.{All, AllPairs, list_any}
use Rattle.std.proofs.lemmas.Bool.{or_cases}
use Rattle.std.proofs.lemmas.Bool.Decides.{Decides-eqb}
use Rattle.std.proofs.lemmas.List.{get_or_append_left, length-append}
use Rattle.std.proofs.lemmas.List.Elements.{All-head, All-tail, All-map}
use Rattle.std.proofs.lemmas.Map.Made.{IsDistinct-from_AllPairs}
use Rattle.std.proofs.lemmas.Map.Steps.{length-le_from_distinct_below}
use Rattle.pipe_model_node.proofs.MarkedOnce.{pairs_map}
use Rattle.pipe_model_atomic.specs.Begins.{Begins}

-- what the one that passes a test gives
pub any_gives : {A : Type 0} (test : A → Bool) (P : A → Type 0) (B : Type 0) (xs : List A) → All P xs → ((a : A) → P a → test a ≡ true → B) → list_any test xs ≡ true → B
any_gives test P B [] all gives is = absurd (true≢false (sym is))
any_gives test P B (x ∷ xs) all gives is =
    elim (or_cases (test x) (list_any test xs) is) [
      | inl here ↦ gives x (All-head P x xs all) here
      | inr later ↦ any_gives test P B xs (All-tail P x xs all) gives later
    ]

length_map : {A : Type 0} (number : A → ℕ) (xs : List A) → length (map number xs) ≡ length xs
length_map number [] = refl
length_map number (x ∷ xs) = let rest = length_map number xs in omega (arith, rest)

pub few_below : {A : Type 0} (number : A → ℕ) (bound : ℕ) (xs : List A) → AllPairs (λ a b. number a ≢ number b) xs → All (λ a. number a < bound) xs → length xs ≤ bound
few_below number bound xs different below =
    let IsBelow : ℕ → Type 0 = λ n. n < bound in
    let all : All IsBelow (map number xs) = All-map IsBelow number xs below in
    subst (λ (n : ℕ). n ≤ bound) (length_map number xs)
    (length-le_from_distinct_below (map number xs) bound (IsDistinct-from_AllPairs Decides-eqb (map number xs) (pairs_map (λ a b. a ≢ b) number xs different))
    (λ q is. any_gives (λ n. q == n) IsBelow (q < bound) (map number xs) all (λ n below same. subst IsBelow (sym (eqb-true q n same)) below) is))

first_pairs : {A : Type 0} (R : A → A → Type 0) (xs later : List A) → AllPairs R (xs ++ later) → AllPairs R xs
first_pairs {A = A} R xs later all i j d lt inside =
    subst (λ (a : A). R a (get_or xs j d)) (get_or_append_left xs later d i (omega (arith, lt, inside)))
    (subst (λ (b : A). R (get_or (xs ++ later) i d) b) (get_or_append_left xs later d j inside) (all i j d lt (omega (arith, length-append xs later, inside))))

-- the first ones of a list are as different
pub pairs_begin : {A : Type 0} (R : A → A → Type 0) (xs ys : List A) → Begins xs ys → AllPairs R ys → AllPairs R xs
pairs_begin R xs ys begins all = first_pairs R xs begins.0 (subst (AllPairs R) (sym begins.1) all)

-- what holds of all holds of the last ones
pub all_last : {A : Type 0} (P : A → Type 0) (xs ys : List A) → All P (xs ++ ys) → All P ys
all_last P [] ys all = all
all_last P (x ∷ xs) ys all = all_last P xs ys (All-tail P x (xs ++ ys) all)
