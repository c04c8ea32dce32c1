-- Lemmas on lists of links that are filtered from all links, as those out of a node.
use Rattle.std.proofs.Common.{◌≡◌, ℕ, zero, suc, ◌<◌, Bool, true, false, List, [], ◌∷◌, length, map, filter, get_or, All, Contains, refl, sym, subst, ◌∙◌, true≢false, arith}
use Rattle.std.specs.List.{range_with_len}
use Rattle.std.proofs.lemmas.List.Elements.{All-head, All-tail, All-map, All-filter, All-from_get_or, All-contains_itself}
use Rattle.std.proofs.lemmas.List.FromFn.{get_or-range_with_len, length-range_with_len, get_or-map-range_with_len, length-map-range_with_len}
use Rattle.pipe_base.specs.declared.name.LinkId.{LinkId}
use Rattle.pipe_graph.specs.Graph.{link_id}

-- what holds of all that a filter keeps holds of each that passes
pub filter_all : {X : Type 0} (p : X → Bool) (P : X → Type 0) (xs : List X) → All P (filter p xs) → (k : ℕ) (d : X) → k < length xs → p (get_or xs k d) ≡ true → P (get_or xs k d)
filter_all p P [] all k d lt is = absurd (omega arith)
filter_all {X} p P (x ∷ xs) all k d lt is = pick (λ rest j j_lt j_is. filter_all p P xs rest j d j_lt j_is) (p x) refl k lt is
  where
    pick : (All P (filter p xs) → (j : ℕ) → j < length xs → p (get_or xs j d) ≡ true → P (get_or xs j d)) → (t : Bool) → p x ≡ t
        → (k : ℕ) → k < length (x ∷ xs) → p (get_or (x ∷ xs) k d) ≡ true → P (get_or (x ∷ xs) k d)
    pick later true here zero k_lt k_is = All-head P x (filter p xs) (subst (All P) (kept here) all)
      where
        kept : p x ≡ true → filter p (x ∷ xs) ≡ x ∷ filter p xs
        kept e = rw e refl
    pick later false here zero k_lt k_is = absurd (true≢false (sym k_is ∙ here))
    pick later true here (suc j) k_lt k_is = later (All-tail P x (filter p xs) (subst (All P) (kept here) all)) j (omega arith) k_is
      where
        kept : p x ≡ true → filter p (x ∷ xs) ≡ x ∷ filter p xs
        kept e = rw e refl
    pick later false here (suc j) k_lt k_is = later (subst (All P) (dropped here) all) j (omega arith) k_is
      where
        dropped : p x ≡ false → filter p (x ∷ xs) ≡ filter p xs
        dropped e = rw e refl

-- the same for the links below a bound
pub listed_all : (p : LinkId → Bool) (P : LinkId → Type 0) (n l : ℕ) → All P (filter p (map link_id (range_with_len 0 n))) → l < n → p (link_id l) ≡ true → P (link_id l)
listed_all p P n l all lt is =
    let at : get_or (map link_id (range_with_len 0 n)) l (link_id 0) ≡ link_id l = get_or-map-range_with_len link_id 0 n l l (link_id 0) lt (omega arith) in
    let size = length-map-range_with_len link_id 0 n in
    subst P at (filter_all p P (map link_id (range_with_len 0 n)) all l (link_id 0) (omega arith) (subst (λ (k : LinkId). p k ≡ true) (sym at) is))

pub listed_contains : (p : LinkId → Bool) (n l : ℕ) → l < n → p (link_id l) ≡ true → Contains (filter p (map link_id (range_with_len 0 n))) (link_id l)
listed_contains p n l lt is =
    listed_all p (Contains (filter p (map link_id (range_with_len 0 n)))) n l (All-contains_itself (filter p (map link_id (range_with_len 0 n)))) lt is

-- the numbers below a bound, as links, are below it
pub numbered_below : (n : ℕ) → All (λ (l : LinkId). l.0 < n) (map link_id (range_with_len 0 n))
numbered_below n =
    All-map (λ (l : LinkId). l.0 < n) link_id (range_with_len 0 n)
    (All-from_get_or (λ (k : ℕ). k < n) (range_with_len 0 n) 0
    (λ i lt. let size = length-range_with_len 0 n in let at = get_or-range_with_len 0 n i 0 (omega arith) in omega arith))

pub listed_below : (p : LinkId → Bool) (n : ℕ) → All (λ (l : LinkId). l.0 < n) (filter p (map link_id (range_with_len 0 n)))
listed_below p n = All-filter p (λ (l : LinkId). l.0 < n) (map link_id (range_with_len 0 n)) (numbered_below n)
