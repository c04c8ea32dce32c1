-- Lemmas on names: as bytes of the keys of a set, and one name more.
use Rattle.std.proofs.Common.{◌≡◌, ◌≢◌, ℕ, ◌+◌, ◌<◌, Bool, false, not, if◌then◌else◌, cond, nat_lt, List, [], ◌∷◌, ◌++◌, length, map, get_or, None, Some, position, AllPairs, inl, inr, refl, sym, ap, subst, ◌∙◌, true≢false, take, length-take-le, arith, length-append}
use Rattle.std.proofs.lemmas.Bool.{false_from_ne_true}
use Rattle.std.specs.List.{list_any, prefix_len}
use Rattle.std.specs.Str.{bytes_eq}
use Rattle.std.proofs.lemmas.Bool.Decides.{eqb_tells}
use Rattle.std.proofs.lemmas.List.{get_or_append_left, get_or_at, take_more, get_or_default, get_or-take, map-append, length-map}
use Rattle.std.proofs.lemmas.List.Folds.{list_any_at, list_any_none}
use Rattle.std.proofs.lemmas.Slice.Eq.{bytes_eq-Decides}
use Rattle.pipe_topo.specs.Names.{AreNames}

pub list_any-map : {X Y : Type 0} (p : Y → Bool) (f : X → Y) (xs : List X) → list_any p (map f xs) ≡ list_any (λ x. p (f x)) xs
list_any-map p f [] = refl
list_any-map p f (x ∷ xs) = let rest : list_any p (map f xs) ≡ list_any (λ y. p (f y)) xs = list_any-map p f xs in cc

prefix_len-map : {X Y : Type 0} (p : Y → Bool) (f : X → Y) (xs : List X) → prefix_len p (map f xs) ≡ prefix_len (λ x. p (f x)) xs
prefix_len-map p f [] = refl
prefix_len-map p f (x ∷ xs) = let rest : prefix_len p (map f xs) ≡ prefix_len (λ y. p (f y)) xs = prefix_len-map p f xs in cc

pub position-map : {X Y : Type 0} (p : Y → Bool) (f : X → Y) (xs : List X) → position p (map f xs) ≡ position (λ x. p (f x)) xs
position-map p f xs =
    let at = prefix_len-map (λ y. not (p y)) f xs in
    let both : length (map f xs) ≡ length xs = simp length-map in
    λ i. cond (nat_lt (at i) (both i)) (Some (at i)) None

-- a name that was not among the keys, which are seen as names, goes last
pub name_added : {K : Type 0} (seen : K → List ℕ) (keys longer : List K) (key : K) (name : List ℕ) → seen key ≡ name → list_any (λ k. bytes_eq name (seen k)) keys ≡ false
    → longer ≡ (if list_any (λ k. bytes_eq (seen key) (seen k)) keys then keys else keys ++ key ∷ []) → map seen longer ≡ map seen keys ++ name ∷ []
name_added {K} seen keys longer key name is none more =
    let new : list_any (λ k. bytes_eq (seen key) (seen k)) keys ≡ false =
    subst (λ (n : List ℕ). list_any (λ k. bytes_eq n (seen k)) keys ≡ false) (sym is) none in
    ap (map seen) (more ∙ ap (λ (b : Bool). if b then keys else keys ++ key ∷ []) new)
    ∙ map-append seen keys (key ∷ [])
    ∙ ap (λ (n : List ℕ). map seen keys ++ n ∷ []) is

pub names_more : (names : List (List ℕ)) (name : List ℕ) → AreNames names → list_any (bytes_eq name) names ≡ false → length names < 65535 → AreNames (names ++ name ∷ [])
names_more names name are none few =
    let size = length-append names (name ∷ []) in
    record {
      different = λ i j d lt j_lt. elim (eqb_tells j (length names)) [
        | inl last ↦
            let before : get_or (names ++ name ∷ []) i d ≡ get_or names i d = get_or_append_left names (name ∷ []) d i (omega (arith, last.1)) in
            let here : get_or (names ++ name ∷ []) j d ≡ name = get_or_at names name [] d j (sym last.1) in
            λ same. true≢false (sym (list_any_at (bytes_eq name) names i d (omega (arith, last.1)) ((bytes_eq-Decides name (get_or names i d)).1 (sym here ∙ sym same ∙ before))) ∙ none)
        | inr earlier ↦
            let apart = earlier.1 in
            let first : get_or (names ++ name ∷ []) i d ≡ get_or names i d = get_or_append_left names (name ∷ []) d i (omega arith) in
            let second : get_or (names ++ name ∷ []) j d ≡ get_or names j d = get_or_append_left names (name ∷ []) d j (omega arith) in
            λ same. are.different i j d lt (omega arith) (sym first ∙ same ∙ second)
      ];
      few = omega arith;
    }

-- no name was there before itself
pub name_is_new : (names : List (List ℕ)) (at : ℕ) → AllPairs (λ a b. a ≢ b) names → at < length names → list_any (bytes_eq (get_or names at [])) (take at names) ≡ false
name_is_new names at different lt =
    list_any_none (bytes_eq (get_or names at [])) (take at names)
    (λ k d k_lt.
    let size = length-take-le at names (omega arith) in
    let read : get_or (take at names) k d ≡ get_or names k [] = get_or-take at names k d (omega arith) ∙ get_or_default names k d [] (omega arith) in
    false_from_ne_true (bytes_eq (get_or names at []) (get_or (take at names) k d))
    (λ same. different k at [] (omega arith) lt (sym ((bytes_eq-Decides (get_or names at []) (get_or (take at names) k d)).0 same ∙ read))))

-- a copy gets the next name
pub copied_more : (names copy longer : List (List ℕ)) (name : List ℕ) (at : ℕ) (new : Bool) → AllPairs (λ a b. a ≢ b) names → at < length names → name ≡ get_or names at []
    → copy ≡ take at names → new ≡ not (list_any (bytes_eq name) copy) → longer ≡ (if new then copy ++ name ∷ [] else copy) → longer ≡ take (at + 1) names
copied_more names copy longer name at new different lt is so_far added more =
    let fresh : list_any (bytes_eq name) copy ≡ false = (λ i. list_any (bytes_eq (is i)) (so_far i)) ∙ name_is_new names at different lt in
    more
    ∙ ap (λ (b : Bool). if b then copy ++ name ∷ [] else copy) (added ∙ ap not fresh)
    ∙ (λ i. so_far i ++ is i ∷ [])
    ∙ sym (take_more names at [] lt)
