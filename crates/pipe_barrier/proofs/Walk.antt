-- A walk that changes all that is kept of links, and a search in it.
use Rattle.std.proofs.Common.{◌≡◌, ℕ, ◌+◌, ◌-◌, ◌<◌, ◌≤◌, ◌==◌, ◌||◌, if◌then◌else◌, Bool, true, false, cond, Option, None, Some, List, ◌++◌, length, get_or, take, drop, set, map, ap, ap₂, ◌∙◌, le_refl, le_of_lt, arith, eqb-true, length-take-le, get_or-drop, take_all, append-nil}
use Rattle.std.proofs.lemmas.List.{length-map, get_or-append_right, get_or_default, drop_all}
use Rattle.std.proofs.lemmas.List.Edits.{map_over_more}
use Rattle.pipe_base.specs.declared.name.LinkId.{LinkId}

-- what it reads at a place is what was there
pub read_ahead : {X : Type 0} (f : X → X) (xs ys : List X) (i : ℕ) (d : X) → i < length xs
    → ys ≡ map f (take i xs) ++ drop i xs → get_or ys i d ≡ get_or xs i d
read_ahead f xs ys i d lt is = ap (λ zs. get_or zs i d) is ∙ get_or-append_right (map f (take i xs)) (drop i xs) i i d size (le_refl i) ∙ at_start
  where
    size : length (map f (take i xs)) ≡ i
    size = length-map (take i xs) f ∙ length-take-le i xs (le_of_lt lt)

    at_start : get_or (drop i xs) (i - i) d ≡ get_or xs i d
    at_start = get_or-drop i xs (i - i) d ∙ ap (λ n. get_or xs n d) (omega arith)

-- the links up to a place are changed
pub links_turn : {X : Type 0} (f : X → X) (xs ys : List X) (i : ℕ) (d y : X) → i < length xs → i < length ys
    → ys ≡ map f (take i xs) ++ drop i xs → y ≡ f (get_or ys i d)
    → set ys i y ≡ map f (take (i + 1) xs) ++ drop (i + 1) xs
links_turn {X} f xs ys i d y lt within is y_is =
    let x : X = get_or ys i d in
    ap (set ys i) y_is ∙ map_over_more f xs ys i x lt is (get_or_default ys i d x within)

pub links_at_end : {X : Type 0} (f : X → X) (xs ys : List X) (i : ℕ) → length xs ≤ i → ys ≡ map f (take i xs) ++ drop i xs → ys ≡ map f xs
links_at_end {X} f xs ys i past_end is =
    is ∙ ap₂ (λ (front rest : List X). map f front ++ rest) (take_all i xs past_end) (drop_all i xs past_end) ∙ append-nil (map f xs)

record_of : (l m : LinkId) → l.0 ≡ m.0 → l ≡ m
record_of l m same = let make : ℕ → LinkId = λ n. record { 0 = n } in ap make same

-- a step of a search for what is kept of a link
pub found_first : {X : Type 0} (t : Bool) (kept : LinkId → X) (link m : LinkId) (o : Option X) (later : Bool) → (m.0 == link.0) ≡ t
    → o ≡ (if later then Some (kept link) else None)
    → cond t (Some (kept m)) o ≡ (if (t || later) then Some (kept link) else None)
found_first true kept link m o later same o_is = ap (λ (l : LinkId). Some (kept l)) (record_of m link (eqb-true m.0 link.0 same))
found_first false kept link m o later other o_is = o_is
