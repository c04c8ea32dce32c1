-- As many links as there are nodes suffice to lead on: each round finds a new node, or no later round does.
use Rattle.std.proofs.Common.{◌≡◌, ℕ, zero, suc, ◌+◌, ◌<◌, ◌≤◌, ◌==◌, Bool, true, false, ◌&&◌, not, List, [], ◌∷◌, ◌⊎◌, inl, inr, refl, sym, subst, ◌∙◌, true≢false, arith, ◌++◌}
use Rattle.std.proofs.lemmas.Bool.{and_from, and_parts, eq-eqb, not-true, not_from_false, or_left, or_right}
use Rattle.pipe_graph.specs.Below.{any_below}
use Rattle.pipe_graph.specs.Graph.{Graph, IsGraph, tail_of, head_of, is_half}
use Rattle.pipe_graph.specs.Path.{Leads, IsPath}
use Rattle.pipe_graph.specs.Reach.{goes_on, leads_within, reaches, feeds}
use Rattle.pipe_graph.proofs.BelowLaws.{any_below_gives, none_below, count_below, count_gains, count_most}
use Rattle.pipe_graph.proofs.PathLaws.{path_end, path_to_link}
use Rattle.pipe_graph.proofs.ReachLaws.{goes_on_gives, goes_on_from, within_leads, leads_is_within, within_later}

-- the round after k finds no new node
abbrev Stops : Graph → (ℕ → Bool) → ℕ → ℕ → Type 0
Stops g by b k = (n : ℕ) → n < g.nodes → leads_within g by b (suc k) n ≡ true → leads_within g by b k n ≡ true

stopped : (g : Graph) (by : ℕ → Bool) (b k : ℕ) → IsGraph g → Stops g by b k → (ls : List ℕ) (n : ℕ) → Leads g by n b ls
    → leads_within g by b k n ≡ true
stopped g by b k graph stops [] n leads = leads_is_within g by b [] k n leads (omega arith)
stopped g by b k graph stops (l ∷ ls) n leads =
    let on : goes_on g by n (leads_within g by b k) ≡ true =
    goes_on_from g by n (leads_within g by b k) l leads.1 (stopped g by b k graph stops ls (head_of g l) leads.2) in
    let inside : n < g.nodes = subst (λ (m : ℕ). m < g.nodes) leads.1.begins (graph.tails_in l leads.1.known) in
    stops n inside (or_right (n == b) (is_half g n && goes_on g by n (leads_within g by b k))
    (and_from (is_half g n) (goes_on g by n (leads_within g by b k)) leads.0 on))

stops_later : (g : Graph) (by : ℕ → Bool) (b k : ℕ) → IsGraph g → Stops g by b k → Stops g by b (suc k)
stops_later g by b k graph stops n lt h =
    let way = within_leads g by b (suc (suc k)) n h in
    within_later g by b k n (stopped g by b k graph stops way.0 n way.1)

abbrev is_new : Graph → (ℕ → Bool) → ℕ → ℕ → ℕ → Bool
is_new g by b k n = leads_within g by b (suc k) n && not (leads_within g by b k n)

-- a round that finds a new node has one more than the round before
round_grows : (g : Graph) (by : ℕ → Bool) (b k : ℕ) → any_below (is_new g by b k) g.nodes ≡ true
    → count_below (leads_within g by b k) g.nodes + 1 ≤ count_below (leads_within g by b (suc k)) g.nodes
round_grows g by b k some =
    let found = any_below_gives (is_new g by b k) g.nodes some in
    let parts = and_parts (leads_within g by b (suc k) found.0) (not (leads_within g by b k found.0)) found.2 in
    count_gains (leads_within g by b k) (leads_within g by b (suc k)) g.nodes found.0
    (λ n lt h. within_later g by b k n h) found.1 (not-true (leads_within g by b k found.0) parts.1) parts.0

round_stops : (g : Graph) (by : ℕ → Bool) (b k : ℕ) → any_below (is_new g by b k) g.nodes ≡ false → Stops g by b k
round_stops g by b k none n lt h = by_cases (leads_within g by b k n) refl
  where
    by_cases : (t : Bool) → leads_within g by b k n ≡ t → leads_within g by b k n ≡ true
    by_cases true is = is
    by_cases false is =
        absurd (true≢false (sym (and_from (leads_within g by b (suc k) n) (not (leads_within g by b k n)) h (not_from_false (leads_within g by b k n) is))
        ∙ none_below (is_new g by b k) g.nodes n none lt))

grows_or_stops : (g : Graph) (by : ℕ → Bool) (b : ℕ) → IsGraph g → b < g.nodes → (k : ℕ)
    → Stops g by b k ⊎ (k + 1 ≤ count_below (leads_within g by b k) g.nodes)
grows_or_stops g by b graph lt zero =
    let some : count_below (λ (n : ℕ). false) g.nodes + 1 ≤ count_below (leads_within g by b zero) g.nodes =
    count_gains (λ (n : ℕ). false) (leads_within g by b zero) g.nodes b (λ n below h. absurd (true≢false (sym h))) lt refl (eq-eqb b b refl) in
    inr (omega arith)
grows_or_stops g by b graph lt (suc k) =
    elim (grows_or_stops g by b graph lt k) [
      | inl stops ↦ inl (stops_later g by b k graph stops)
      | inr many ↦ next many (any_below (is_new g by b k) g.nodes) refl
    ]
  where
    next : k + 1 ≤ count_below (leads_within g by b k) g.nodes → (t : Bool) → any_below (is_new g by b k) g.nodes ≡ t
        → Stops g by b (suc k) ⊎ (suc k + 1 ≤ count_below (leads_within g by b (suc k)) g.nodes)
    next many true is = let more = round_grows g by b k is in inr (omega arith)
    next many false is = inl (stops_later g by b k graph (round_stops g by b k is))

pub rounds_suffice : (g : Graph) (by : ℕ → Bool) (b n : ℕ) (ls : List ℕ) → IsGraph g → b < g.nodes → Leads g by n b ls
    → leads_within g by b g.nodes n ≡ true
rounds_suffice g by b n ls graph lt leads =
    elim (grows_or_stops g by b graph lt g.nodes) [
      | inl stops ↦ stopped g by b g.nodes graph stops ls n leads
      | inr many ↦ let most = count_most (leads_within g by b g.nodes) g.nodes in absurd (omega arith)
    ]

pub has_path : (g : Graph) (by : ℕ → Bool) (a b : ℕ) → reaches g by a b ≡ true → (p : List ℕ) × IsPath g by a b p
has_path g by a b h =
    let link = goes_on_gives g by a (leads_within g by b g.nodes) h in
    let rest = within_leads g by b g.nodes (head_of g link.0) link.2 in
    (link.0 ∷ rest.0, (link.1, rest.1))

pub is_reach : (g : Graph) (by : ℕ → Bool) (a b : ℕ) (p : List ℕ) → IsGraph g → IsPath g by a b p → reaches g by a b ≡ true
is_reach g by a b [] graph path = absurd path
is_reach g by a b (l ∷ ls) graph path =
    goes_on_from g by a (leads_within g by b g.nodes) l path.0
    (rounds_suffice g by b (head_of g l) ls graph (path_end g by a b (l ∷ ls) graph path) path.1)

pub fed_along : (g : Graph) (by : ℕ → Bool) (a b l : ℕ) (before after : List ℕ) → IsGraph g → IsPath g by a b (before ++ l ∷ after) → feeds g by a l ≡ true
fed_along g by a b l before after graph path =
    elim (path_to_link g by a b l before after path) [
      | inl first ↦ or_left (a == tail_of g l) (is_half g (tail_of g l) && reaches g by a (tail_of g l)) (eq-eqb a (tail_of g l) first)
      | inr later ↦ or_right (a == tail_of g l) (is_half g (tail_of g l) && reaches g by a (tail_of g l))
          (and_from (is_half g (tail_of g l)) (reaches g by a (tail_of g l)) later.0 (is_reach g by a (tail_of g l) before graph later.1))
    ]
