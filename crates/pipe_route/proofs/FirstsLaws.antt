-- The links to the nearest nodes are those that begin a shortest path.
use Rattle.std.proofs.Common.{◌≡◌, ◌⊎◌, ℕ, ◌+◌, ◌<◌, ◌≤◌, ◌==◌, nat_lt, ◌&&◌, min, if◌then◌else◌, Bool, true, false, List, [], ◌∷◌, ◌++◌, length, filter, get_or, take, map, not, All, inl, inr, refl, sym, ap, subst, ◌∙◌, true≢false, arith}
use Rattle.std.proofs.lemmas.Bool.{and_from, and_parts, eq-eqb, eqb-true, lt-ltb, ltb-true}
use Rattle.std.proofs.lemmas.Bool.Decides.{leb_tells}
use Rattle.std.proofs.lemmas.List.Elements.{All-more, All-weaker, All-nil}
use Rattle.pipe_base.specs.declared.name.LinkId.{LinkId}
use Rattle.pipe_graph.specs.Graph.{Graph, IsGraph, tail_of, head_of, link_id, outs_of}
use Rattle.pipe_graph.specs.Path.{LeavesBy, IsPath}
use Rattle.pipe_graph.specs.ShortestRoute.{BeginsShortest, begins_shortest, firsts_of}
use Rattle.std.specs.List.{range_with_len}
use Rattle.std.proofs.lemmas.List.{get_or-map}
use Rattle.std.proofs.lemmas.List.FromFn.{map-range_with_len_more}
use Rattle.pipe_graph.proofs.Listed.{listed_all}
use Rattle.pipe_graph.proofs.ReachLaws.{AreAlike}
use Rattle.pipe_topo.specs.Sets.{has, lacks}
use Rattle.pipe_graph.proofs.RouteLaws.{filter_alike, outs_all}
use Rattle.pipe_graph.proofs.Shortest.{begins_gives, begins_from, rest_few}
use Rattle.pipe_graph.proofs.Tests.{same_tests}
use Rattle.pipe_topo.specs.Walk.{far, away_of, IsDistances}
use Rattle.pipe_route.specs.Firsts.{nearer_of, IsNearest, IsLeast, is_first}
use Rattle.pipe_base.specs.Limits.{most_nodes}

-- no links yet
pub least_start : (g : Graph) (by : ℕ → Bool) (away : List ℕ) (n : ℕ) → IsLeast g by away n [] far
least_start g by away n = record { least = All-nil (λ (l : LinkId). by l.0 ≡ true → far ≤ away_of away (head_of g l.0)); reached = inl refl }

-- one link more
pub least_more : (g : Graph) (by : ℕ → Bool) (away : List ℕ) (n nearest : ℕ) (links : List LinkId) (i l : ℕ) → IsLeast g by away n (take i links) nearest
    → i < length links → get_or links i (link_id 0) ≡ link_id l → l < length g.links → tail_of g l ≡ n → IsLeast g by away n (take (i + 1) links) (nearer_of g by away nearest l)
least_more g by away n nearest links i l is i_lt item lt begins = pick (by l) refl
  where
    pick : (t : Bool) → by l ≡ t → IsLeast g by away n (take (i + 1) links) (if by l then min nearest (away_of away (head_of g l)) else nearest)
    pick false unused =
        let Near : LinkId → Type 0 = λ (k : LinkId). by k.0 ≡ true → nearest ≤ away_of away (head_of g k.0) in
        rw unused record {
          least = All-more Near links i (link_id 0) i_lt is.least (subst Near (sym item) (λ used. absurd (true≢false (sym used ∙ unused))));
          reached = is.reached;
        }
    pick true used =
        let least = min nearest (away_of away (head_of g l)) in
        let Before : LinkId → Type 0 = λ (k : LinkId). by k.0 ≡ true → nearest ≤ away_of away (head_of g k.0) in
        let Near : LinkId → Type 0 = λ (k : LinkId). by k.0 ≡ true → least ≤ away_of away (head_of g k.0) in
        rw used record {
          least = All-more Near links i (link_id 0) i_lt (All-weaker Before Near (λ k before k_used. let b = before k_used in omega arith) (take i links) is.least)
              (subst Near (sym item) (λ k_used. omega arith));
          reached = elim (leb_tells nearest (away_of away (head_of g l))) [
            | inl before ↦ subst (λ (m : ℕ). (m ≡ far) ⊎ ((k : ℕ) × IsNearest g by away n m k)) (kept before.1) is.reached
            | inr closer ↦ inr (l, record { known = lt; begins = begins; used = used; away_is = omega (arith, closer.1) })
          ];
        }
      where
        kept : {m : ℕ} → nearest ≤ m → nearest ≡ min nearest m
        kept le = omega arith

-- by the distances to a receiver, a link out of the node is to the nearest exactly where it begins a shortest path
module _ (g : Graph) (by : ℕ → Bool) (n dst nearest : ℕ) (away : List ℕ) (graph : IsGraph g) (few : g.nodes ≤ most_nodes) (right : IsDistances g by dst away)
    (near : IsLeast g by away n (outs_of g n) nearest) where
  -- no link of the set out of the node leads nearer
  none_nearer : (l : ℕ) → LeavesBy g by n l → nearest ≤ away_of away (head_of g l)
  none_nearer l leaves =
      listed_all (λ (k : LinkId). tail_of g k.0 == n) (λ (k : LinkId). by k.0 ≡ true → nearest ≤ away_of away (head_of g k.0)) (length g.links) l
      near.least leaves.known (eq-eqb (tail_of g l) n leaves.begins) leaves.used

  first_gives : (l : ℕ) → l < length g.links → tail_of g l ≡ n → is_first g by away nearest l ≡ true → BeginsShortest g by n dst l
  first_gives l lt begins is =
      let outer = and_parts (by l && (away_of away (head_of g l) == nearest)) (nat_lt nearest far) is in
      let inner = and_parts (by l) (away_of away (head_of g l) == nearest) outer.0 in
      let here = eqb-true (away_of away (head_of g l)) nearest inner.1 in
      let below = ltb-true nearest far outer.1 in
      let way = right.found (head_of g l) (omega arith) in
      record {
        rest = way.0;
        path = (record { known = lt; used = inner.0; begins = begins }, way.1);
        least = λ q path. no_shorter way.0 (way.2 ∙ here) q path;
      }
    where
      no_shorter : (rest : List ℕ) → length rest ≡ nearest → (q : List ℕ) → IsPath g by n dst q → length (l ∷ rest) ≤ length q
      no_shorter rest size [] path = absurd path
      no_shorter rest size (k ∷ ks) path =
          let more = none_nearer k path.0 in
          let least = right.least (head_of g k) ks path.1 in
          omega arith

  first_from : (l : ℕ) → BeginsShortest g by n dst l → is_first g by away nearest l ≡ true
  first_from l is =
      let rest = rest_few g by n dst l graph is in
      let least = right.least (head_of g l) is.rest is.path.1 in
      let low = none_nearer l is.path.0 in
      let high : away_of away (head_of g l) ≤ nearest = elim near.reached [
        | inl none ↦ omega (arith, none)
        | inr found ↦
            let at = found.1 in
            let way = right.found (head_of g found.0) (omega (arith, at.away_is)) in
            let shortest = is.least (found.0 ∷ way.0) (record { known = at.known; used = at.used; begins = at.begins }, way.1) in
            omega (arith, at.away_is, way.2)
      ] in
      and_from (by l && (away_of away (head_of g l) == nearest)) (nat_lt nearest far)
      (and_from (by l) (away_of away (head_of g l) == nearest) is.path.0.used (eq-eqb (away_of away (head_of g l)) nearest (omega arith)))
      (lt-ltb nearest far (omega arith))

  pub firsts_are : filter (λ l. is_first g by away nearest l.0) (outs_of g n) ≡ firsts_of g by n dst
  firsts_are =
      filter_alike (λ (l : LinkId). is_first g by away nearest l.0) (λ (l : LinkId). begins_shortest g by n dst l.0) (outs_of g n)
      (outs_all g n (λ (l : LinkId). is_first g by away nearest l.0 ≡ begins_shortest g by n dst l.0)
      (λ l lt begins.
      same_tests (is_first g by away nearest l) (begins_shortest g by n dst l)
      (λ is. begins_from g by n dst l graph (first_gives l lt begins is))
      (λ is. first_from l (begins_gives g by n dst l lt begins is))))

-- each link out of a node begins there
pub outs_begin : (g : Graph) (n : ℕ) (links : List LinkId) → links ≡ outs_of g n → (i : ℕ) → i < length links → tail_of g (get_or links i (link_id 0)).0 ≡ n
outs_begin g n links are i lt =
    let P : LinkId → Type 0 = λ (l : LinkId). tail_of g l.0 ≡ n in
    subst (All P) (sym are) (outs_all g n P (λ l l_lt begins. begins)) i (link_id 0) lt

-- the set of the links that another lacks
pub rest_lacks : (g : Graph) (dropped kept : List Bool) → kept ≡ map not dropped → length dropped ≡ length g.links → AreAlike g (has kept) (lacks dropped)
rest_lacks g dropped kept are size l lt =
    ap (λ (s : List Bool). has s l) are ∙ get_or-map not dropped l false false (omega arith)

-- the lists for one host more
pub hosts_more : (g : Graph) (by : ℕ → Bool) (n host : ℕ) (links longer : List (List LinkId)) (listed : List LinkId)
    → links ≡ map (λ dst. firsts_of g by n dst) (range_with_len 0 host) → longer ≡ links ++ listed ∷ [] → listed ≡ firsts_of g by n host
    → longer ≡ map (λ dst. firsts_of g by n dst) (range_with_len 0 (host + 1))
hosts_more g by n host links longer listed are more is =
    more ∙ (λ i. are i ++ is i ∷ []) ∙ sym (map-range_with_len_more (λ (dst : ℕ). firsts_of g by n dst) 0 host host (omega arith))
