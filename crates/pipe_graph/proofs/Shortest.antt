-- The test "begins a shortest path" is what it says, both ways.
use Rattle.std.proofs.Common.{◌≡◌, ℕ, zero, suc, ◌+◌, ◌<◌, ◌≤◌, Bool, true, false, ◌&&◌, not, List, [], ◌∷◌, length, sym, ◌∙◌, true≢false, arith}
use Rattle.std.proofs.lemmas.Bool.{and_from, and_parts, false_from_ne_true, not-true, not_from_false}
use Rattle.pipe_graph.specs.Graph.{Graph, IsGraph, tail_of, head_of}
use Rattle.pipe_graph.specs.Path.{IsPath}
use Rattle.pipe_graph.specs.Reach.{leads_within}
use Rattle.pipe_graph.specs.ShortestRoute.{BeginsShortest, comes_within, begins_shortest}
use Rattle.pipe_graph.proofs.BelowLaws.{any_below_gives, any_below_from}
use Rattle.pipe_graph.proofs.PathLaws.{path_end}
use Rattle.pipe_graph.proofs.ReachLaws.{goes_on_gives, goes_on_from, within_leads, leads_is_within}
use Rattle.pipe_graph.proofs.Rounds.{rounds_suffice}

pub comes_gives : (g : Graph) (by : ℕ → Bool) (dst n k : ℕ) → comes_within g by dst n k ≡ true → (p : List ℕ) × IsPath g by n dst p × (length p ≤ k)
comes_gives g by dst n zero h = absurd (true≢false (sym h))
comes_gives g by dst n (suc k) h =
    let link = goes_on_gives g by n (leads_within g by dst k) h in
    let rest = within_leads g by dst k (head_of g link.0) link.2 in
    (link.0 ∷ rest.0, (link.1, rest.1), omega arith)

pub comes_from : (g : Graph) (by : ℕ → Bool) (dst n : ℕ) (p : List ℕ) (k : ℕ) → IsPath g by n dst p → length p ≤ k → comes_within g by dst n k ≡ true
comes_from g by dst n [] k path few = absurd path
comes_from g by dst n (l ∷ ls) zero path few = absurd (omega arith)
comes_from g by dst n (l ∷ ls) (suc k) path few =
    goes_on_from g by n (leads_within g by dst k) l path.0 (leads_is_within g by dst ls k (head_of g l) path.1 (omega arith))

-- no path with at most k links: each has more
longer : (g : Graph) (by : ℕ → Bool) (dst n k : ℕ) (q : List ℕ) → comes_within g by dst n k ≡ false → IsPath g by n dst q → k + 1 ≤ length q
longer g by dst n k q none path = by_cases (λ few. true≢false (sym (comes_from g by dst n q k path few) ∙ none))
  where
    by_cases : (length q ≤ k → ⊥) → k + 1 ≤ length q
    by_cases not_few = omega arith

abbrev is_count : Graph → (ℕ → Bool) → ℕ → ℕ → ℕ → ℕ → Bool
is_count g by n dst l k = leads_within g by dst k (head_of g l) && not (comes_within g by dst n k)

pub begins_gives : (g : Graph) (by : ℕ → Bool) (n dst l : ℕ) → l < length g.links → tail_of g l ≡ n → begins_shortest g by n dst l ≡ true
    → BeginsShortest g by n dst l
begins_gives g by n dst l lt begins h =
    let parts = and_parts (by l) _ h in
    let found = any_below_gives (is_count g by n dst l) (suc g.nodes) parts.1 in
    let both = and_parts (leads_within g by dst found.0 (head_of g l)) (not (comes_within g by dst n found.0)) found.2 in
    let way = within_leads g by dst found.0 (head_of g l) both.0 in
    record {
      rest = way.0;
      path = (record { known = lt; used = parts.0; begins = begins }, way.1);
      least = λ q path. let more = longer g by dst n found.0 q (not-true (comes_within g by dst n found.0) both.1) path in omega arith;
    }

-- a shortest path has at most one link more than there are nodes
pub rest_few : (g : Graph) (by : ℕ → Bool) (n dst l : ℕ) → IsGraph g → (is : BeginsShortest g by n dst l) → length is.rest ≤ g.nodes
rest_few g by n dst l graph is =
    let within = rounds_suffice g by dst (head_of g l) is.rest graph (path_end g by n dst (l ∷ is.rest) graph is.path) is.path.1 in
    let way = within_leads g by dst g.nodes (head_of g l) within in
    let least = is.least (l ∷ way.0) (is.path.0, way.1) in
    omega arith

pub begins_from : (g : Graph) (by : ℕ → Bool) (n dst l : ℕ) → IsGraph g → BeginsShortest g by n dst l → begins_shortest g by n dst l ≡ true
begins_from g by n dst l graph is =
    let few = rest_few g by n dst l graph is in
    let none : comes_within g by dst n (length is.rest) ≡ false =
    false_from_ne_true (comes_within g by dst n (length is.rest))
    (λ h. let shorter = comes_gives g by dst n (length is.rest) h in let least = is.least shorter.0 shorter.1 in absurd (omega arith)) in
    and_from (by l) _ is.path.0.used
    (any_below_from (is_count g by n dst l) (suc g.nodes) (length is.rest) (omega arith)
    (and_from (leads_within g by dst (length is.rest) (head_of g l)) (not (comes_within g by dst n (length is.rest)))
    (leads_is_within g by dst is.rest (length is.rest) (head_of g l) is.path.1 (omega arith))
    (not_from_false (comes_within g by dst n (length is.rest)) none)))
