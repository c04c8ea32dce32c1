-- In a mirrored graph a path by all links turns round.
use Rattle.std.proofs.Common.{◌≡◌, ℕ, ◌+◌, ◌-◌, ◌%◌, ◌<◌, ◌≤◌, ◌==◌, Bool, true, false, if◌then◌else◌, List, [], ◌∷◌, nat_lt, inl, inr, refl, sym, ap, subst, ◌∙◌, true≢false, arith}
use Rattle.std.proofs.lemmas.Bool.{leb-true, le-leb, lt-ltb}
use Rattle.std.proofs.lemmas.Bool.Decides.{eqb_tells}
use Rattle.pipe_graph.specs.Graph.{Graph, IsGraph, head_of, is_half}
use Rattle.pipe_graph.specs.Path.{every_link, LeavesBy, Leads, IsPath}
use Rattle.pipe_graph.specs.Reach.{reaches}
use Rattle.pipe_graph.specs.Mirror.{mirror_of, IsMirrored}
use Rattle.pipe_graph.proofs.PathLaws.{path_leads}
use Rattle.pipe_graph.proofs.Rounds.{has_path, is_reach}

host_stays : (hosts n : ℕ) → n < hosts → mirror_of hosts n ≡ n
host_stays hosts n lt = rw (lt-ltb n hosts lt) refl

half_turns : (g : Graph) (n : ℕ) → is_half g n ≡ true → is_half g (mirror_of g.hosts n) ≡ true
half_turns g n half = le-leb g.hosts (mirror_of g.hosts n) (at_least g.hosts n (leb-true g.hosts n half))
  where
    at_least : (hosts m : ℕ) → hosts ≤ m → hosts ≤ mirror_of hosts m
    at_least hosts m le = pick (nat_lt m hosts) ((m - hosts) % 2 == 0) refl
      where
        pick : (s t : Bool) → ((m - hosts) % 2 == 0) ≡ t → hosts ≤ (if s then m else (if t then m + 1 else m - 1))
        pick true t is = le
        pick false true is = omega arith
        pick false false is = elim (eqb_tells ((m - hosts) % 2) 0) [
          | inl even ↦ absurd (true≢false (sym even.0 ∙ is))
          | inr odd ↦ let apart = odd.1 in omega arith
        ]

-- the link that goes the other way
back_leaves : (g : Graph) (mirrored : IsMirrored g) (n l : ℕ) (leaves : LeavesBy g every_link n l)
    → LeavesBy g every_link (mirror_of g.hosts (head_of g l)) (mirrored l leaves.known).0
back_leaves g mirrored n l leaves =
    let back = mirrored l leaves.known in
    record { known = back.1; used = refl; begins = back.2 }

turned : (g : Graph) (mirrored : IsMirrored g) (ls : List ℕ) (n b c : ℕ) (done : List ℕ) → Leads g every_link n b ls
    → IsPath g every_link (mirror_of g.hosts n) c done → (q : List ℕ) × IsPath g every_link (mirror_of g.hosts b) c q
turned g mirrored [] n b c done leads path = (done, subst (λ (m : ℕ). IsPath g every_link (mirror_of g.hosts m) c done) leads path)
turned g mirrored (l ∷ ls) n b c done leads path =
    let back = mirrored l leads.1.known in
    let ends : head_of g back.0 ≡ mirror_of g.hosts n = back.3 ∙ ap (mirror_of g.hosts) leads.1.begins in
    let on : Leads g every_link (mirror_of g.hosts n) c done = path_leads g every_link (mirror_of g.hosts n) c done (half_turns g n leads.0) path in
    turned g mirrored ls (head_of g l) b c (back.0 ∷ done) leads.2
    (back_leaves g mirrored n l leads.1, subst (λ (m : ℕ). Leads g every_link m c done) (sym ends) on)

pub path_turns : (g : Graph) → IsMirrored g → (a b : ℕ) (p : List ℕ) → IsPath g every_link a b p
    → (q : List ℕ) × IsPath g every_link (mirror_of g.hosts b) (mirror_of g.hosts a) q
path_turns g mirrored a b [] path = absurd path
path_turns g mirrored a b (l ∷ ls) path =
    let back = mirrored l path.0.known in
    let ends : head_of g back.0 ≡ mirror_of g.hosts a = back.3 ∙ ap (mirror_of g.hosts) path.0.begins in
    turned g mirrored ls (head_of g l) b (mirror_of g.hosts a) (back.0 ∷ []) path.1 (back_leaves g mirrored a l path.0, ends)

pub reach_turns : (g : Graph) → IsGraph g → IsMirrored g → (a b : ℕ) → a < g.hosts → b < g.hosts
    → reaches g every_link a b ≡ true → reaches g every_link b a ≡ true
reach_turns g graph mirrored a b a_host b_host h =
    let there = has_path g every_link a b h in
    let back = path_turns g mirrored a b there.0 there.1 in
    let from : IsPath g every_link b (mirror_of g.hosts a) back.0 = subst (λ (m : ℕ). IsPath g every_link m (mirror_of g.hosts a) back.0) (host_stays g.hosts b b_host) back.1 in
    is_reach g every_link b a back.0 graph (subst (λ (m : ℕ). IsPath g every_link b m back.0) (host_stays g.hosts a a_host) from)
