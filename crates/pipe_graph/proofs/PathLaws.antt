-- Lemmas on paths: joined at a half, split at a link, by a larger set.
use Rattle.std.proofs.Common.{◌≡◌, ℕ, ◌<◌, ◌≤◌, Bool, true, List, [], ◌∷◌, ◌++◌, length, ◌⊎◌, inl, inr, refl, sym, ap, subst, arith}
use Rattle.pipe_graph.specs.Graph.{Graph, IsGraph, tail_of, head_of, is_half}
use Rattle.pipe_graph.specs.Path.{LeavesBy, Leads, IsPath}

-- a set with at least the links of another
abbrev pub HasAll : Graph → (ℕ → Bool) → (ℕ → Bool) → Type 0
HasAll g small large = (l : ℕ) → l < length g.links → small l ≡ true → large l ≡ true

leaves_more : (g : Graph) (small large : ℕ → Bool) (n l : ℕ) → HasAll g small large → LeavesBy g small n l → LeavesBy g large n l
leaves_more g small large n l more leaves = record { known = leaves.known; used = more l leaves.known leaves.used; begins = leaves.begins }

pub leads_more : (g : Graph) (small large : ℕ → Bool) (n b : ℕ) (ls : List ℕ) → HasAll g small large → Leads g small n b ls → Leads g large n b ls
leads_more g small large n b [] more leads = leads
leads_more g small large n b (l ∷ ls) more leads =
    (leads.0, leaves_more g small large n l more leads.1, leads_more g small large (head_of g l) b ls more leads.2)

pub path_more : (g : Graph) (small large : ℕ → Bool) (a b : ℕ) (p : List ℕ) → HasAll g small large → IsPath g small a b p → IsPath g large a b p
path_more g small large a b [] more path = path
path_more g small large a b (l ∷ ls) more path =
    (leaves_more g small large a l more path.0, leads_more g small large (head_of g l) b ls more path.1)

pub leads_append : (g : Graph) (by : ℕ → Bool) (a m b : ℕ) (ps qs : List ℕ) → Leads g by a m ps → Leads g by m b qs → Leads g by a b (ps ++ qs)
leads_append g by a m b [] qs ps_lead qs_lead = subst (λ (n : ℕ). Leads g by n b qs) (sym ps_lead) qs_lead
leads_append g by a m b (l ∷ ps) qs ps_lead qs_lead =
    (ps_lead.0, ps_lead.1, leads_append g by (head_of g l) m b ps qs ps_lead.2 qs_lead)

-- a path from a half leads on from it
pub path_leads : (g : Graph) (by : ℕ → Bool) (a b : ℕ) (p : List ℕ) → is_half g a ≡ true → IsPath g by a b p → Leads g by a b p
path_leads g by a b [] half path = absurd path
path_leads g by a b (l ∷ ls) half path = (half, path.0, path.1)

pub path_append : (g : Graph) (by : ℕ → Bool) (a m b : ℕ) (ps qs : List ℕ) → is_half g m ≡ true → IsPath g by a m ps → IsPath g by m b qs → IsPath g by a b (ps ++ qs)
path_append g by a m b [] qs half front back = absurd front
path_append g by a m b (l ∷ ps) qs half front back =
    (front.0, leads_append g by (head_of g l) m b ps qs front.1 (path_leads g by m b qs half back))

pub leads_split : (g : Graph) (by : ℕ → Bool) (a b l : ℕ) (before after : List ℕ) → Leads g by a b (before ++ l ∷ after)
    → Leads g by a (head_of g l) (before ++ l ∷ []) × Leads g by (head_of g l) b after
leads_split g by a b l [] after leads = ((leads.0, leads.1, refl), leads.2)
leads_split g by a b l (k ∷ before) after leads =
    let rest = leads_split g by (head_of g k) b l before after leads.2 in
    ((leads.0, leads.1, rest.0), rest.1)

pub path_split : (g : Graph) (by : ℕ → Bool) (a b l : ℕ) (before after : List ℕ) → IsPath g by a b (before ++ l ∷ after)
    → IsPath g by a (head_of g l) (before ++ l ∷ []) × Leads g by (head_of g l) b after
path_split g by a b l [] after path = ((path.0, refl), path.1)
path_split g by a b l (k ∷ before) after path =
    let rest = leads_split g by (head_of g k) b l before after path.1 in
    ((path.0, rest.0), rest.1)

pub leads_end : (g : Graph) (by : ℕ → Bool) (n b : ℕ) (ls : List ℕ) → IsGraph g → n < g.nodes → Leads g by n b ls → b < g.nodes
leads_end g by n b [] graph lt leads = subst (λ (m : ℕ). m < g.nodes) leads lt
leads_end g by n b (l ∷ ls) graph lt leads = leads_end g by (head_of g l) b ls graph (graph.heads_in l leads.1.known) leads.2

-- a path ends at a node of the graph
pub path_end : (g : Graph) (by : ℕ → Bool) (a b : ℕ) (p : List ℕ) → IsGraph g → IsPath g by a b p → b < g.nodes
path_end g by a b [] graph path = absurd path
path_end g by a b (l ∷ ls) graph path = leads_end g by (head_of g l) b ls graph (graph.heads_in l path.0.known) path.1

-- a bound that each link carries, from what its tail sends to what its head knows, is carried along
module _ (g : Graph) (by : ℕ → Bool) (known sent : ℕ → ℕ) (passes_on : (n : ℕ) → is_half g n ≡ true → sent n ≡ known n)
    (carries : (l : ℕ) → l < length g.links → by l ≡ true → known (head_of g l) ≤ sent (tail_of g l)) where
  leads_carry : (ls : List ℕ) (n b : ℕ) → Leads g by n b ls → known b ≤ known n
  leads_carry [] n b leads = let e = ap known leads in omega arith
  leads_carry (l ∷ ls) n b leads =
      let rest = leads_carry ls (head_of g l) b leads.2 in
      let here = carries l leads.1.known leads.1.used in
      let from = ap sent leads.1.begins in
      let on = passes_on n leads.0 in
      omega arith

  path_carried : (a b : ℕ) (p : List ℕ) → IsPath g by a b p → known b ≤ sent a
  path_carried a b [] path = absurd path
  path_carried a b (l ∷ ls) path =
      let rest = leads_carry ls (head_of g l) b path.1 in
      let here = carries l path.0.known path.0.used in
      let from = ap sent path.0.begins in
      omega arith

pub path_carries : (g : Graph) (by : ℕ → Bool) (known sent : ℕ → ℕ) → ((n : ℕ) → is_half g n ≡ true → sent n ≡ known n)
    → ((l : ℕ) → l < length g.links → by l ≡ true → known (head_of g l) ≤ sent (tail_of g l)) → (a b : ℕ) (p : List ℕ) → IsPath g by a b p → known b ≤ sent a
path_carries g by known sent passes_on carries a b p path = path_carried g by known sent passes_on carries a b p path

-- a link of a list that leads on begins at a half, and the links before it lead to its tail
leads_to_link : (g : Graph) (by : ℕ → Bool) (n b l : ℕ) (before after : List ℕ) → Leads g by n b (before ++ l ∷ after)
    → (is_half g (tail_of g l) ≡ true) × Leads g by n (tail_of g l) before
leads_to_link g by n b l [] after leads = (subst (λ (m : ℕ). is_half g m ≡ true) (sym leads.1.begins) leads.0, sym leads.1.begins)
leads_to_link g by n b l (k ∷ before) after leads =
    let rest = leads_to_link g by (head_of g k) b l before after leads.2 in
    (rest.0, (leads.0, leads.1, rest.1))

-- a link of a path begins at the start, or at a half to which the links before it are a path
pub path_to_link : (g : Graph) (by : ℕ → Bool) (a b l : ℕ) (before after : List ℕ) → IsPath g by a b (before ++ l ∷ after)
    → (a ≡ tail_of g l) ⊎ ((is_half g (tail_of g l) ≡ true) × IsPath g by a (tail_of g l) before)
path_to_link g by a b l [] after path = inl (sym path.0.begins)
path_to_link g by a b l (k ∷ before) after path =
    let rest = leads_to_link g by (head_of g k) b l before after path.1 in
    inr (rest.0, (path.0, rest.1))
