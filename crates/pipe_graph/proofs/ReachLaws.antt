-- What "leads on within so many links" says: there is a list of links, both ways.
use Rattle.std.proofs.Common.{◌≡◌, ℕ, zero, suc, ◌<◌, ◌≤◌, ◌==◌, Bool, true, ◌&&◌, ◌||◌, List, [], ◌∷◌, length, inl, inr, refl, ap, arith}
use Rattle.std.proofs.lemmas.Bool.{and_from, and_parts, eq-eqb, eqb-true, or_cases, or_left, or_right}
use Rattle.pipe_graph.specs.Graph.{Graph, tail_of, head_of, is_half}
use Rattle.pipe_graph.specs.Path.{LeavesBy, Leads}
use Rattle.pipe_graph.specs.Reach.{goes_on, leads_within, reaches}
use Rattle.pipe_graph.proofs.BelowLaws.{any_below_gives, any_below_from, any_below_alike}

pub goes_on_gives : (g : Graph) (by : ℕ → Bool) (n : ℕ) (passes : ℕ → Bool) → goes_on g by n passes ≡ true
    → (l : ℕ) × LeavesBy g by n l × (passes (head_of g l) ≡ true)
goes_on_gives g by n passes h =
    let found = any_below_gives (λ (l : ℕ). (by l && (tail_of g l == n)) && passes (head_of g l)) (length g.links) h in
    let both = and_parts (by found.0 && (tail_of g found.0 == n)) (passes (head_of g found.0)) found.2 in
    let first = and_parts (by found.0) (tail_of g found.0 == n) both.0 in
    (found.0, record { known = found.1; used = first.0; begins = eqb-true (tail_of g found.0) n first.1 }, both.1)

pub goes_on_from : (g : Graph) (by : ℕ → Bool) (n : ℕ) (passes : ℕ → Bool) (l : ℕ) → LeavesBy g by n l → passes (head_of g l) ≡ true
    → goes_on g by n passes ≡ true
goes_on_from g by n passes l leaves pass =
    any_below_from (λ (k : ℕ). (by k && (tail_of g k == n)) && passes (head_of g k)) (length g.links) l leaves.known
    (and_from (by l && (tail_of g l == n)) (passes (head_of g l))
    (and_from (by l) (tail_of g l == n) leaves.used (eq-eqb (tail_of g l) n leaves.begins)) pass)

pub within_leads : (g : Graph) (by : ℕ → Bool) (b k n : ℕ) → leads_within g by b k n ≡ true
    → (ls : List ℕ) × Leads g by n b ls × (length ls ≤ k)
within_leads g by b zero n h = ([], eqb-true n b h, omega arith)
within_leads g by b (suc k) n h =
    elim (or_cases (n == b) (is_half g n && goes_on g by n (leads_within g by b k)) h) [
      | inl here ↦ ([], eqb-true n b here, omega arith)
      | inr on ↦
          let parts = and_parts (is_half g n) (goes_on g by n (leads_within g by b k)) on in
          let link = goes_on_gives g by n (leads_within g by b k) parts.1 in
          let rest = within_leads g by b k (head_of g link.0) link.2 in
          (link.0 ∷ rest.0, (parts.0, link.1, rest.1), omega arith)
    ]

pub leads_is_within : (g : Graph) (by : ℕ → Bool) (b : ℕ) (ls : List ℕ) (k n : ℕ) → Leads g by n b ls → length ls ≤ k
    → leads_within g by b k n ≡ true
leads_is_within g by b [] zero n leads few = eq-eqb n b leads
leads_is_within g by b [] (suc k) n leads few =
    or_left (n == b) (is_half g n && goes_on g by n (leads_within g by b k)) (eq-eqb n b leads)
leads_is_within g by b (l ∷ ls) zero n leads few = absurd (omega arith)
leads_is_within g by b (l ∷ ls) (suc k) n leads few =
    let on : goes_on g by n (leads_within g by b k) ≡ true =
    goes_on_from g by n (leads_within g by b k) l leads.1 (leads_is_within g by b ls k (head_of g l) leads.2 (omega arith)) in
    or_right (n == b) (is_half g n && goes_on g by n (leads_within g by b k))
    (and_from (is_half g n) (goes_on g by n (leads_within g by b k)) leads.0 on)

-- one link more is no harm
pub within_later : (g : Graph) (by : ℕ → Bool) (b k n : ℕ) → leads_within g by b k n ≡ true → leads_within g by b (suc k) n ≡ true
within_later g by b k n h =
    let way = within_leads g by b k n h in leads_is_within g by b way.0 (suc k) n way.1 (omega arith)

-- sets that have the same links of the graph
abbrev pub AreAlike : Graph → (ℕ → Bool) → (ℕ → Bool) → Type 0
AreAlike g s t = (l : ℕ) → l < length g.links → s l ≡ t l

pub goes_on_alike : (g : Graph) (s t : ℕ → Bool) (n : ℕ) (p q : ℕ → Bool) → AreAlike g s t → ((m : ℕ) → p m ≡ q m)
    → goes_on g s n p ≡ goes_on g t n q
goes_on_alike g s t n p q alike same =
    any_below_alike (λ (l : ℕ). (s l && (tail_of g l == n)) && p (head_of g l)) (λ (l : ℕ). (t l && (tail_of g l == n)) && q (head_of g l)) (length g.links)
    (λ l lt. let by : s l ≡ t l = alike l lt in let on : p (head_of g l) ≡ q (head_of g l) = same (head_of g l) in cc)

pub leads_within_alike : (g : Graph) (s t : ℕ → Bool) (b : ℕ) → AreAlike g s t → (k n : ℕ) → leads_within g s b k n ≡ leads_within g t b k n
leads_within_alike g s t b alike zero n = refl
leads_within_alike g s t b alike (suc k) n =
    ap (λ (on : Bool). (n == b) || (is_half g n && on))
    (goes_on_alike g s t n (leads_within g s b k) (leads_within g t b k) alike (λ m. leads_within_alike g s t b alike k m))

pub reaches_alike : (g : Graph) (s t : ℕ → Bool) (a b : ℕ) → AreAlike g s t → reaches g s a b ≡ reaches g t a b
reaches_alike g s t a b alike =
    goes_on_alike g s t a (leads_within g s b g.nodes) (leads_within g t b g.nodes) alike (λ m. leads_within_alike g s t b alike g.nodes m)
