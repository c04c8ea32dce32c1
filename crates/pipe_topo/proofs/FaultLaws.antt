-- What the first fault says: the first pair that is apart; and a plan without a fault joins all hosts.
use Rattle.std.proofs.Common.{◌≡◌, ℕ, ◌<◌, ◌≤◌, nat_le, nat_lt, if◌then◌else◌, ◌&&◌, not, Bool, true, false, List, length, replicate, Option, None, Some, is_some, option_map, inl, inr, refl, sym, ap, ◌∙◌, true≢false, arith}
use Rattle.std.proofs.lemmas.Bool.{le-leb}
use Rattle.std.proofs.lemmas.Bool.Decides.{leb_tells, nat_tests}
use Rattle.std.proofs.lemmas.List.{get_or-replicate}
use Rattle.pipe_graph.specs.Graph.{Graph}
use Rattle.pipe_graph.specs.Path.{every_link}
use Rattle.pipe_graph.specs.Reach.{reaches, JoinsAllHosts}
use Rattle.pipe_graph.proofs.ReachLaws.{AreAlike, reaches_alike}
use Rattle.pipe_graph.proofs.Turn.{reach_turns}
use Rattle.pipe_topo.specs.Fault.{too_many, no_hosts, level_fault, double_fault, idle_fault, shape_fault, is_apart, apart_from, apart_at, apart_fault, fault_of}
use Rattle.std.specs.Option.{option_or}
use Rattle.pipe_topo.specs.First.{first_below}
use Rattle.pipe_topo.specs.Plan.{graph_of, IsPlan, IsSmall}
use Rattle.pipe_topo.specs.Sets.{has}
use Rattle.pipe_topo.specs.declared.fault.TopoFault.{TopoFault}
use Rattle.pipe_topo.specs.declared.fault.TopoFault.TheVariants.{TooMany, Apart}
use Rattle.pipe_topo.specs.declared.fault.What.{What}
use Rattle.pipe_topo.specs.declared.fault.What.TheVariants.{Hosts, Switches, Cables}
use Rattle.pipe_topo.specs.declared.plan.Plan.{Plan}
use Rattle.pipe_topo.proofs.FirstLaws.{none_first, first_at, first_none, first_passes}
use Rattle.pipe_topo.proofs.LinkLaws.{plan_is_graph}
use Rattle.pipe_topo.proofs.MirrorLaws.{plan_mirrored}

all_alike : (g : Graph) (all : List Bool) → all ≡ replicate (length g.links) true → AreAlike g (has all) every_link
all_alike g all are l lt = ap (λ (s : List Bool). has s l) are ∙ get_or-replicate (length g.links) l true false lt

-- the test of two hosts with the first not after the second
pub apart_is : (g : Graph) (all : List Bool) (a b : ℕ) (reached : Bool) → all ≡ replicate (length g.links) true → a ≤ b → reached ≡ reaches g (has all) a b → not reached ≡ is_apart g a b
apart_is g all a b reached are le is =
    ap not (is ∙ reaches_alike g (has all) every_link a b (all_alike g all are))
    ∙ ap (λ (t : Bool). t && not (reaches g every_link a b)) (sym (le-leb a b le))

-- the first host that has another apart from it, and the first such
pub apart_found : (g : Graph) (a b : ℕ) → a < g.hosts → first_below (λ (k : ℕ). is_some (apart_from g k)) a ≡ None → apart_from g a ≡ Some b → apart_fault g ≡ Some (Apart a b)
apart_found g a b lt none found =
    ap (apart_at g) (first_at (λ (k : ℕ). is_some (apart_from g k)) g.hosts a lt none (ap is_some found))
    ∙ ap (option_map (λ (k : ℕ). Apart a k)) found

-- no fault of this kind: no host has another apart from it
none_apart : (g : Graph) → apart_fault g ≡ None → (a b : ℕ) → a < g.hosts → b < g.hosts → is_apart g a b ≡ false
none_apart g none a b a_lt b_lt = first_none (is_apart g a) g.hosts b (nothing (apart_from g a) (first_none (λ (k : ℕ). is_some (apart_from g k)) g.hosts a no_host a_lt)) b_lt
  where
    nothing : (o : Option ℕ) → is_some o ≡ false → o ≡ None
    nothing None h = refl
    nothing (Some k) h = absurd (true≢false h)

    no_host : first_below (λ (k : ℕ). is_some (apart_from g k)) g.hosts ≡ None
    no_host = pick (first_below (λ (k : ℕ). is_some (apart_from g k)) g.hosts) refl
      where
        pick : (o : Option ℕ) → first_below (λ (k : ℕ). is_some (apart_from g k)) g.hosts ≡ o → first_below (λ (k : ℕ). is_some (apart_from g k)) g.hosts ≡ None
        pick None is = is
        pick (Some k) is = absurd (some_fault (apart_from g k) (first_passes (λ (j : ℕ). is_some (apart_from g j)) g.hosts k is) (sym (ap (apart_at g) is) ∙ none))
          where
            some_fault : (o : Option ℕ) → is_some o ≡ true → option_map (λ (b : ℕ). Apart k b) o ≡ None → ⊥
            some_fault None some h = true≢false (sym some)
            some_fault (Some j) some h = cc

not_apart : (g : Graph) (a b : ℕ) → is_apart g a b ≡ false → a ≤ b → reaches g every_link a b ≡ true
not_apart g a b isnt le = pick (reaches g every_link a b) refl
  where
    pick : (t : Bool) → reaches g every_link a b ≡ t → reaches g every_link a b ≡ true
    pick true is = is
    pick false is = absurd (true≢false (sym (λ i. (le-leb a b le i) && not (is i)) ∙ isnt))

-- a plan without this fault joins all hosts
pub no_apart_joins : (plan : Plan) → IsPlan plan → apart_fault (graph_of plan) ≡ None → JoinsAllHosts (graph_of plan)
no_apart_joins plan is none a b a_lt b_lt =
    elim (leb_tells a b) [
      | inl le ↦ not_apart (graph_of plan) a b (none_apart (graph_of plan) none a b a_lt b_lt) le.1
      | inr gt ↦
          reach_turns (graph_of plan) (plan_is_graph plan is) (plan_mirrored plan is) b a b_lt a_lt
          (not_apart (graph_of plan) b a (none_apart (graph_of plan) none b a b_lt a_lt) (omega (arith, gt.1)))
    ]

-- a graph that joins all hosts has no fault of this kind
pub joined_none_apart : (g : Graph) → JoinsAllHosts g → apart_fault g ≡ None
joined_none_apart g joins =
    ap (apart_at g)
    (none_first (λ (a : ℕ). is_some (apart_from g a)) g.hosts
    (λ a a_lt. ap is_some (none_first (is_apart g a) g.hosts (λ b b_lt. together a b (joins a b a_lt b_lt)))))
  where
    and_false : (t : Bool) → (t && false) ≡ false
    and_false true = refl
    and_false false = refl

    together : (a b : ℕ) → reaches g every_link a b ≡ true → is_apart g a b ≡ false
    together a b is = ap (λ (t : Bool). nat_le a b && not t) is ∙ and_false (nat_le a b)

pub neither : (shape apart : Option TopoFault) → option_or shape apart ≡ None → (shape ≡ None) × (apart ≡ None)
neither None apart none = (refl, none)
neither (Some fault) apart none = absurd cc

pub no_fault_joins : (plan : Plan) → IsPlan plan → fault_of plan ≡ None → JoinsAllHosts (graph_of plan)
no_fault_joins plan is none = no_apart_joins plan is (neither (shape_fault plan.hosts plan.levels plan.cables) (apart_fault (graph_of plan)) none).1

few_of : (what : What) (limit count : ℕ) → too_many what limit count ≡ None → count ≤ limit
few_of what limit count none = pick (nat_lt limit count) refl none
  where
    pick : (t : Bool) → nat_lt limit count ≡ t → (if t then Some (TooMany what count) else None) ≡ None → count ≤ limit
    pick true is some = absurd cc
    pick false is no_fault = grind (arith, nat_tests)

-- of faults in their order there is none: the second to fourth are not there
second_to_fourth : (a b c d rest : Option TopoFault) → option_or a (option_or b (option_or c (option_or d rest))) ≡ None → (b ≡ None) × (c ≡ None) × (d ≡ None)
second_to_fourth (Some fault) b c d rest none = absurd cc
second_to_fourth None (Some fault) c d rest none = absurd cc
second_to_fourth None None (Some fault) d rest none = absurd cc
second_to_fourth None None None (Some fault) rest none = absurd cc
second_to_fourth None None None None rest none = (refl, refl, refl)

pub no_fault_small : (plan : Plan) → fault_of plan ≡ None → IsSmall plan.hosts (length plan.levels) (length plan.cables)
no_fault_small plan none =
    let shape = (neither (shape_fault plan.hosts plan.levels plan.cables) (apart_fault (graph_of plan)) none).0 in
    let few = second_to_fourth (no_hosts plan.hosts) (too_many Hosts 64 plan.hosts) (too_many Switches 64 (length plan.levels)) (too_many Cables 512 (length plan.cables))
    (option_or (level_fault plan.levels plan.cables) (option_or (double_fault plan.cables) (idle_fault plan.levels plan.cables))) shape in
    record {
      few_hosts = few_of Hosts 64 plan.hosts few.0;
      few_switches = few_of Switches 64 (length plan.levels) few.1;
      few_cables = few_of Cables 512 (length plan.cables) few.2;
    }
