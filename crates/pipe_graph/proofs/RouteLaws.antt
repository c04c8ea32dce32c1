-- Sets that have the same links of a graph give the same routes; and the routes are picked from the lists by host.
use Rattle.std.proofs.Common.{◌≡◌, ℕ, ◌+◌, ◌<◌, ◌≤◌, ◌==◌, nat_lt, if◌then◌else◌, cond, Bool, true, false, ◌&&◌, not, List, [], ◌∷◌, length, map, filter, get_or, All, Contains, Option, None, inl, inr, refl, sym, ap, subst, ◌∙◌, true≢false, zero, suc, arith}
use Rattle.std.specs.List.{range_with_len}
use Rattle.std.proofs.lemmas.Bool.{eqb-true, eq-eqb, ltb-true, lt-ltb}
use Rattle.std.proofs.lemmas.Bool.Decides.{leb_tells}
use Rattle.std.proofs.lemmas.List.{get_or_past}
use Rattle.std.proofs.lemmas.List.Elements.{All-head, All-tail, All-contains, All-contains_itself, All-filter, filter_passes}
use Rattle.std.proofs.lemmas.List.FromFn.{get_or-map-range_with_len, length-map-range_with_len}
use Rattle.pipe_base.specs.declared.name.LinkId.{LinkId}
use Rattle.pipe_graph.specs.Graph.{Graph, IsGraph, tail_of, head_of, link_id, all_links, outs_of, is_host}
use Rattle.pipe_graph.specs.Reach.{leads_within}
use Rattle.pipe_graph.specs.ShortestRoute.{BeginsShortest, comes_within, begins_shortest, firsts_of, firsts_by_host, route_by}
use Rattle.pipe_base.specs.Ways.{in_turn, picked}
use Rattle.pipe_graph.proofs.BelowLaws.{any_below_alike}
use Rattle.pipe_graph.proofs.Listed.{filter_all, listed_below, listed_contains}
use Rattle.pipe_graph.proofs.ReachLaws.{AreAlike, goes_on_alike, leads_within_alike}
use Rattle.pipe_graph.proofs.Shortest.{begins_gives, begins_from}

pub filter_alike : {X : Type 0} (p q : X → Bool) (xs : List X) → All (λ x. p x ≡ q x) xs → filter p xs ≡ filter q xs
filter_alike p q [] same = refl
filter_alike p q (x ∷ xs) same =
    let here : p x ≡ q x = All-head (λ y. p y ≡ q y) x xs same in
    let rest : filter p xs ≡ filter q xs = filter_alike p q xs (All-tail (λ y. p y ≡ q y) x xs same) in
    λ i. cond (here i) (x ∷ rest i) (rest i)

-- what holds of each link out of a node holds of all that are listed
pub outs_all : (g : Graph) (n : ℕ) (P : LinkId → Type 0) → ((l : ℕ) → l < length g.links → tail_of g l ≡ n → P (link_id l)) → All P (outs_of g n)
outs_all g n P each k d lt =
    let l = get_or (outs_of g n) k d in
    each l.0 (listed_below (λ (j : LinkId). tail_of g j.0 == n) (length g.links) k d lt)
    (eqb-true (tail_of g l.0) n (filter_passes (λ (j : LinkId). tail_of g j.0 == n) (all_links g) k d lt))

comes_within_alike : (g : Graph) (s t : ℕ → Bool) (dst n : ℕ) → AreAlike g s t → (k : ℕ) → comes_within g s dst n k ≡ comes_within g t dst n k
comes_within_alike g s t dst n alike zero = refl
comes_within_alike g s t dst n alike (suc k) =
    goes_on_alike g s t n (leads_within g s dst k) (leads_within g t dst k) alike (λ m. leads_within_alike g s t dst alike k m)

begins_alike : (g : Graph) (s t : ℕ → Bool) (n dst l : ℕ) → AreAlike g s t → l < length g.links → begins_shortest g s n dst l ≡ begins_shortest g t n dst l
begins_alike g s t n dst l alike lt =
    let used : s l ≡ t l = alike l lt in
    let counts =
    any_below_alike (λ (k : ℕ). leads_within g s dst k (head_of g l) && not (comes_within g s dst n k)) (λ (k : ℕ). leads_within g t dst k (head_of g l) && not (comes_within g t dst n k)) (suc g.nodes)
    (λ k k_lt. λ i. leads_within_alike g s t dst alike k (head_of g l) i && not (comes_within_alike g s t dst n alike k i)) in
    λ i. used i && counts i

pub firsts_alike : (g : Graph) (s t : ℕ → Bool) (n dst : ℕ) → AreAlike g s t → firsts_of g s n dst ≡ firsts_of g t n dst
firsts_alike g s t n dst alike =
    filter_alike (λ (l : LinkId). begins_shortest g s n dst l.0) (λ (l : LinkId). begins_shortest g t n dst l.0) (outs_of g n)
    (outs_all g n (λ (l : LinkId). begins_shortest g s n dst l.0 ≡ begins_shortest g t n dst l.0) (λ l lt begins. begins_alike g s t n dst l alike lt))

map_alike : {X : Type 0} (f h : ℕ → X) (xs : List ℕ) → ((n : ℕ) → f n ≡ h n) → map f xs ≡ map h xs
map_alike f h [] same = refl
map_alike f h (x ∷ xs) same = λ i. same x i ∷ map_alike f h xs same i

pub firsts_by_host_alike : (g : Graph) (s t : ℕ → Bool) (n : ℕ) → AreAlike g s t → firsts_by_host g s n ≡ firsts_by_host g t n
firsts_by_host_alike g s t n alike =
    map_alike (λ (dst : ℕ). firsts_of g s n dst) (λ (dst : ℕ). firsts_of g t n dst) (range_with_len 0 g.hosts) (λ dst. firsts_alike g s t n dst alike)

pub route_alike : (g : Graph) (s t : ℕ → Bool) (n src dst : ℕ) → AreAlike g s t → route_by g s n src dst ≡ route_by g t n src dst
route_alike g s t n src dst alike =
    ap (λ (ls : List LinkId). if is_host g dst then in_turn ls (src + dst) else None) (firsts_alike g s t n dst alike)

pub picked_is_route : (g : Graph) (by : ℕ → Bool) (n src dst : ℕ) → picked (firsts_by_host g by n) src dst ≡ route_by g by n src dst
picked_is_route g by n src dst = pick (nat_lt dst g.hosts) refl
  where
    pick : (t : Bool) → nat_lt dst g.hosts ≡ t → picked (firsts_by_host g by n) src dst ≡ (if nat_lt dst g.hosts then in_turn (firsts_of g by n dst) (src + dst) else None)
    pick true is =
        let inside = ltb-true dst g.hosts is in
        ap (λ (ls : List LinkId). in_turn ls (src + dst)) (get_or-map-range_with_len (λ (k : ℕ). firsts_of g by n k) 0 g.hosts dst dst [] inside (omega arith))
        ∙ ap (λ (b : Bool). if b then in_turn (firsts_of g by n dst) (src + dst) else None) (sym is)
    pick false is =
        let outside : g.hosts ≤ dst = elim (leb_tells (suc dst) g.hosts) [
          | inl below ↦ absurd (true≢false (sym (lt-ltb dst g.hosts (omega (arith, below.1))) ∙ is))
          | inr above ↦ omega (arith, above.1)
        ] in
        let size = length-map-range_with_len (λ (k : ℕ). firsts_of g by n k) 0 g.hosts in
        ap (λ (ls : List LinkId). in_turn ls (src + dst)) (get_or_past (firsts_by_host g by n) dst [] (omega arith))
        ∙ ap (λ (b : Bool). if b then in_turn (firsts_of g by n dst) (src + dst) else None) (sym is)

-- a link is listed exactly where it begins a shortest path
pub first_begins : (g : Graph) (by : ℕ → Bool) (n dst l : ℕ) → Contains (firsts_of g by n dst) (link_id l) → BeginsShortest g by n dst l
first_begins g by n dst l listed =
    let P : LinkId → Type 0 = λ (k : LinkId). (begins_shortest g by n dst k.0 ≡ true) in
    let begins : begins_shortest g by n dst l ≡ true =
    All-contains P (firsts_of g by n dst) (link_id l) (filter_passes (λ (k : LinkId). begins_shortest g by n dst k.0) (outs_of g n)) listed in
    let Q : LinkId → Type 0 = λ (k : LinkId). (k.0 < length g.links) × (tail_of g k.0 ≡ n) in
    let out : Q (link_id l) =
    All-contains Q (firsts_of g by n dst) (link_id l) (All-filter (λ (k : LinkId). begins_shortest g by n dst k.0) Q (outs_of g n) (outs_all g n Q (λ k lt is. (lt, is)))) listed in
    begins_gives g by n dst l out.0 out.1 begins

pub begins_is_first : (g : Graph) (by : ℕ → Bool) (n dst l : ℕ) → IsGraph g → BeginsShortest g by n dst l → Contains (firsts_of g by n dst) (link_id l)
begins_is_first g by n dst l graph is =
    let listed = listed_contains (λ (k : LinkId). tail_of g k.0 == n) (length g.links) l is.path.0.known (eq-eqb (tail_of g l) n is.path.0.begins) in
    let at = filter_all (λ (k : LinkId). begins_shortest g by n dst k.0) (Contains (firsts_of g by n dst)) (outs_of g n) (All-contains_itself (firsts_of g by n dst)) listed.0 (link_id l) listed.1
    (subst (λ (k : LinkId). begins_shortest g by n dst k.0 ≡ true) (sym listed.2) (begins_from g by n dst l graph is)) in
    subst (Contains (firsts_of g by n dst)) listed.2 at
