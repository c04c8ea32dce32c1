-- A node reaches another exactly where one of its links leads to a node that is not far from the other.
use Rattle.std.proofs.Common.{◌≡◌, ℕ, ◌<◌, ◌==◌, nat_lt, Bool, true, List, ◌∷◌, length, get_or, sym, subst, arith}
use Rattle.std.specs.List.{list_any}
use Rattle.std.proofs.lemmas.Bool.{and_from, and_parts, eq-eqb, eqb-true, lt-ltb, ltb-true}
use Rattle.std.proofs.lemmas.List.Elements.{filter_passes}
use Rattle.std.proofs.lemmas.List.Folds.{Any-from_list_any, list_any_at}
use Rattle.pipe_base.specs.declared.name.LinkId.{LinkId}
use Rattle.pipe_graph.specs.Graph.{Graph, IsGraph, tail_of, head_of, link_id, all_links, outs_of}
use Rattle.pipe_graph.specs.Reach.{reaches, leads_within}
use Rattle.pipe_graph.proofs.Listed.{listed_below, listed_contains}
use Rattle.pipe_graph.proofs.ReachLaws.{goes_on_gives, within_leads}
use Rattle.pipe_graph.proofs.Rounds.{is_reach}
use Rattle.pipe_graph.proofs.Tests.{same_tests}
use Rattle.pipe_topo.specs.Walk.{far, away_of, IsDistances, leads_near}

-- a link that is listed out of a node, and passes the test
out_gives : (g : Graph) (n : ℕ) (p : LinkId → Bool) → list_any p (outs_of g n) ≡ true → (l : ℕ) × (l < length g.links) × (tail_of g l ≡ n) × (p (link_id l) ≡ true)
out_gives g n p some =
    let found = Any-from_list_any p (outs_of g n) some in
    let l = found.1 in
    let Listed : LinkId → Type 0 = λ (k : LinkId). (k.0 < length g.links) × ((tail_of g k.0 == n) ≡ true) in
    let listed : Listed (get_or (outs_of g n) found.0 l) = (
      listed_below (λ (k : LinkId). tail_of g k.0 == n) (length g.links) found.0 l found.2,
      filter_passes (λ (k : LinkId). tail_of g k.0 == n) (all_links g) found.0 l found.2,
    ) in
    let is : Listed l = subst Listed found.3 listed in
    (l.0, is.0, eqb-true (tail_of g l.0) n is.1, found.4)

out_from : (g : Graph) (n : ℕ) (p : LinkId → Bool) (l : ℕ) → l < length g.links → tail_of g l ≡ n → p (link_id l) ≡ true → list_any p (outs_of g n) ≡ true
out_from g n p l lt begins passes =
    let at = listed_contains (λ (k : LinkId). tail_of g k.0 == n) (length g.links) l lt (eq-eqb (tail_of g l) n begins) in
    list_any_at p (outs_of g n) at.0 (link_id l) at.1 (subst (λ (k : LinkId). p k ≡ true) (sym at.2) passes)

pub near_is_reach : (g : Graph) (by : ℕ → Bool) (a b : ℕ) (away : List ℕ) → IsGraph g → g.nodes < far → IsDistances g by b away
    → list_any (λ l. leads_near g by away l.0) (outs_of g a) ≡ reaches g by a b
near_is_reach g by a b away graph small right =
    same_tests (list_any (λ l. leads_near g by away l.0) (outs_of g a)) (reaches g by a b)
    (λ some.
    let found = out_gives g a (λ l. leads_near g by away l.0) some in
    let parts = and_parts (by found.0) (nat_lt (away_of away (head_of g found.0)) far) found.3 in
    let way = right.found (head_of g found.0) (ltb-true (away_of away (head_of g found.0)) far parts.1) in
    is_reach g by a b (found.0 ∷ way.0) graph (record { known = found.1; used = parts.0; begins = found.2 }, way.1))
    (λ there.
    let found = goes_on_gives g by a (leads_within g by b g.nodes) there in
    let way = within_leads g by b g.nodes (head_of g found.0) found.2 in
    let least = right.least (head_of g found.0) way.0 way.1 in
    out_from g a (λ l. leads_near g by away l.0) found.0 found.1.known found.1.begins
    (and_from (by found.0) (nat_lt (away_of away (head_of g found.0)) far) found.1.used
    (lt-ltb (away_of away (head_of g found.0)) far (omega arith))))
