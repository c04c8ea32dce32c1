-- Who reaches whom by which links.
use Rattle.std.proofs.Common.{◌≡◌, ℕ, ◌+◌, ◌<◌, ◌≤◌, ◌==◌, ◌&&◌, Bool, true, false, List, [], ◌∷◌, ◌++◌, length, refl, sym, subst, ◌∙◌, eq-eqb, length-append, true≢false, arith}
use Rattle.std.proofs.lemmas.Bool.{and_from, false_from_ne_true, or_left, or_right}
use Rattle.pipe_graph.specs.Graph.{Graph, head_of, is_half, tail_of}
use Rattle.pipe_graph.specs.Path.{IsPath, LeavesBy, Leads}
use Rattle.pipe_graph.specs.Reach.{feeds, leads_within, reaches}
use Rattle.pipe_graph.proofs.PathLaws.{HasAll, leads_more, path_append}
use Rattle.pipe_graph.proofs.ReachLaws.{goes_on_from, goes_on_gives, leads_is_within, within_leads}

-- a way from one node to another that is short enough for the test
pub record IsWay (graph : Graph) (by : ℕ → Bool) (start end : ℕ) : Type 0 where
  pub first : ℕ
  pub rest : List ℕ
  pub leaves : LeavesBy graph by start first
  pub leads : Leads graph by (head_of graph first) end rest
  pub short : length rest ≤ graph.nodes

pub way_of : (graph : Graph) (by : ℕ → Bool) (start end : ℕ) → reaches graph by start end ≡ true → IsWay graph by start end
way_of graph by start end reached =
    let first = goes_on_gives graph by start (leads_within graph by end graph.nodes) reached in
    let rest = within_leads graph by end graph.nodes (head_of graph first.0) first.2 in
    record { first = first.0; rest = rest.0; leaves = first.1; leads = rest.1; short = rest.2 }

pub way_reaches : (graph : Graph) (by : ℕ → Bool) (start end : ℕ) → IsWay graph by start end → reaches graph by start end ≡ true
way_reaches graph by start end way =
    goes_on_from graph by start (leads_within graph by end graph.nodes) way.first way.leaves
    (leads_is_within graph by end way.rest graph.nodes (head_of graph way.first) way.leads way.short)

leaves_more : (graph : Graph) (small large : ℕ → Bool) (node link : ℕ) → HasAll graph small large → LeavesBy graph small node link → LeavesBy graph large node link
leaves_more graph small large node link more leaves = record { known = leaves.known; used = more link leaves.known leaves.used; begins = leaves.begins }

-- by more links a node reaches more, by fewer fewer
pub reaches_more : (graph : Graph) (small large : ℕ → Bool) (start end : ℕ) → HasAll graph small large → reaches graph small start end ≡ true → reaches graph large start end ≡ true
reaches_more graph small large start end more reached =
    let way = way_of graph small start end reached in
    way_reaches graph large start end (record {
      first = way.first;
      rest = way.rest;
      leaves = leaves_more graph small large start way.first more way.leaves;
      leads = leads_more graph small large (head_of graph way.first) end way.rest more way.leads;
      short = way.short;
    })

pub reaches_fewer : (graph : Graph) (small large : ℕ → Bool) (start end : ℕ) → HasAll graph small large → reaches graph large start end ≡ false → reaches graph small start end ≡ false
reaches_fewer graph small large start end more cut =
    false_from_ne_true (reaches graph small start end) (λ reached. true≢false (sym (reaches_more graph small large start end more reached) ∙ cut))

-- ---- the links along a way are fed by its start

path_reaches : (graph : Graph) (by : ℕ → Bool) (start end : ℕ) (path : List ℕ) → IsPath graph by start end path → length path ≤ graph.nodes + 1
    → reaches graph by start end ≡ true
path_reaches graph by start end [] path short = absurd path
path_reaches graph by start end (l ∷ ls) path short =
    way_reaches graph by start end (record { first = l; rest = ls; leaves = path.0; leads = path.1; short = omega (arith, short) })

fed_first : (graph : Graph) (by : ℕ → Bool) (start link : ℕ) → tail_of graph link ≡ start → feeds graph by start link ≡ true
fed_first graph by start link begins =
    or_left (start == tail_of graph link) (is_half graph (tail_of graph link) && reaches graph by start (tail_of graph link)) (eq-eqb start (tail_of graph link) (sym begins))

fed_later : (graph : Graph) (by : ℕ → Bool) (start half link : ℕ) → tail_of graph link ≡ half → is_half graph half ≡ true → reaches graph by start half ≡ true
    → feeds graph by start link ≡ true
fed_later graph by start half link begins is reached =
    or_right (start == tail_of graph link) (is_half graph (tail_of graph link) && reaches graph by start (tail_of graph link))
    (subst (λ (n : ℕ). (is_half graph n && reaches graph by start n) ≡ true) (sym begins) (and_from (is_half graph half) (reaches graph by start half) is reached))

-- Let each link of a set be one of a larger set, and one of another set as well where the start feeds it by the larger one. Then
-- what the start reaches by the set, it reaches by the other one.
abbrev pub AreFedIn : Graph → (ℕ → Bool) → (ℕ → Bool) → ℕ → (ℕ → Bool) → Type 0
AreFedIn graph by large start other = (link : ℕ) → link < length graph.links → by link ≡ true → feeds graph large start link ≡ true → other link ≡ true

module _ (graph : Graph) (by large other : ℕ → Bool) (start : ℕ) (more : HasAll graph by large) (fed_in : AreFedIn graph by large start other) where
  walk : (front : List ℕ) (node end : ℕ) (rest : List ℕ) → IsPath graph large start node front → length front + length rest ≤ graph.nodes + 1
      → Leads graph by node end rest → Leads graph other node end rest
  walk front node end [] path short leads = leads
  walk front node end (l ∷ ls) path short leads =
      let reached : reaches graph large start node ≡ true = path_reaches graph large start node front path (omega (arith, short)) in
      let used : other l ≡ true = fed_in l leads.1.known leads.1.used (fed_later graph large start node l leads.1.begins leads.0 reached) in
      let size = length-append front (l ∷ []) in (
        leads.0,
        record { known = leads.1.known; used = used; begins = leads.1.begins },
        walk (front ++ l ∷ []) (head_of graph l) end ls
            (path_append graph large start node (head_of graph l) front (l ∷ []) leads.0 path (leaves_more graph by large node l more leads.1, refl))
            (omega (arith, short, size)) leads.2,
      )

  way_in : (end : ℕ) → IsWay graph by start end → IsWay graph other start end
  way_in end way = record {
    first = way.first;
    rest = way.rest;
    leaves = record {
      known = way.leaves.known;
      used = fed_in way.first way.leaves.known way.leaves.used (fed_first graph large start way.first way.leaves.begins);
      begins = way.leaves.begins;
    };
    leads = walk (way.first ∷ []) (head_of graph way.first) end way.rest (leaves_more graph by large start way.first more way.leaves, refl)
        (omega (arith, way.short)) way.leads;
    short = way.short;
  }

pub reaches_fed : (graph : Graph) (by large other : ℕ → Bool) (start end : ℕ) → HasAll graph by large → AreFedIn graph by large start other
    → reaches graph by start end ≡ true → reaches graph other start end ≡ true
reaches_fed graph by large other start end more fed_in reached =
    way_reaches graph other start end (way_in graph by large other start more fed_in end (way_of graph by start end reached))
