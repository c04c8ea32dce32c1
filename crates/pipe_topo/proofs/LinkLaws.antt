-- Lemmas on the links of a plan: they are few, and join nodes of its graph.
use Rattle.std.proofs.Common.{◌≡◌, ℕ, zero, suc, ◌+◌, ◌*◌, ◌<◌, Bool, true, false, List, [], ◌∷◌, ◌++◌, length, map, get_or, All, refl, sym, ap, ◌∙◌, arith, append_assoc, length-append}
use Rattle.std.specs.List.{flat_map, range_with_len}
use Rattle.std.proofs.lemmas.List.Elements.{All-nil, All-cons, All-tail, All-head, All-append, All-map, All-from_get_or}
use Rattle.std.proofs.lemmas.List.FromFn.{map-range_with_len_more, get_or-range_with_len, length-range_with_len, length-map-range_with_len}
use Rattle.pipe_base.specs.declared.name.Link.{Link}
use Rattle.pipe_graph.specs.Graph.{IsGraph, no_link}
use Rattle.pipe_topo.specs.declared.plan.CableEnd.{CableEnd}
use Rattle.pipe_topo.specs.declared.plan.CableEnd.TheVariants.{Host, Switch}
use Rattle.pipe_topo.specs.declared.plan.Plan.{Plan}
use Rattle.pipe_topo.specs.Plan.{up_node, down_node, joined, rises, lower_first, cable_links, loop_of, plan_links, graph_of, IsEnd, HasEnds, IsPlan}
use Rattle.pipe_topo.specs.Tables.{IsNetwork}

-- one loop more
pub loops_more : (f : ℕ → Link) (front links longer : List Link) (loop : Link) (n : ℕ) → links ≡ front ++ map f (range_with_len 0 n)
    → longer ≡ links ++ loop ∷ [] → loop ≡ f n → longer ≡ front ++ map f (range_with_len 0 (n + 1))
loops_more f front links longer loop n is more last =
    more
    ∙ ap (λ (l : Link). links ++ l ∷ []) last
    ∙ ap (λ (ls : List Link). ls ++ f n ∷ []) is
    ∙ append_assoc front (map f (range_with_len 0 n)) (f n ∷ [])
    ∙ ap (λ (ls : List Link). front ++ ls) (sym (map-range_with_len_more f 0 n n (omega arith)))

-- a link between nodes below a bound
abbrev pub IsBetween : ℕ → Link → Type 0
IsBetween nodes link = (link.tail.0 < nodes) × (link.head.0 < nodes)

up_below : (hosts switches : ℕ) (end : CableEnd) → IsEnd hosts switches end → up_node hosts end < hosts + 2 * switches
up_below hosts switches (Host h) is = omega arith
up_below hosts switches (Switch s) is = omega arith

down_below : (hosts switches : ℕ) (end : CableEnd) → IsEnd hosts switches end → down_node hosts end < hosts + 2 * switches
down_below hosts switches (Host h) is = omega arith
down_below hosts switches (Switch s) is = omega arith

-- the ends of a cable are its ends in any order
pub lower_ends : (P : CableEnd → Type 0) (levels : List ℕ) (cable : CableEnd × CableEnd) → P cable.0 → P cable.1
    → P (lower_first levels cable).0 × P (lower_first levels cable).1
lower_ends P levels cable first second = pick (rises levels cable.0 cable.1) refl
  where
    pick : (t : Bool) → rises levels cable.0 cable.1 ≡ t → P (lower_first levels cable).0 × P (lower_first levels cable).1
    pick true is = rw is (first, second)
    pick false is = rw is (second, first)

cable_between : (hosts switches : ℕ) (levels : List ℕ) (cable : CableEnd × CableEnd) → IsEnd hosts switches cable.0 → IsEnd hosts switches cable.1
    → All (IsBetween (hosts + 2 * switches)) (cable_links hosts levels cable)
cable_between hosts switches levels cable first second =
    let ends = lower_ends (IsEnd hosts switches) levels cable first second in
    let low = (lower_first levels cable).0 in
    let high = (lower_first levels cable).1 in
    let P : Link → Type 0 = IsBetween (hosts + 2 * switches) in
    let down = joined (down_node hosts high) (down_node hosts low) in
    All-cons P (joined (up_node hosts low) (up_node hosts high)) (down ∷ []) (up_below hosts switches low ends.0, up_below hosts switches high ends.1)
    (All-cons P down [] (down_below hosts switches high ends.1, down_below hosts switches low ends.0) (All-nil P))

cables_between : (hosts switches : ℕ) (levels : List ℕ) (cables : List (CableEnd × CableEnd)) → HasEnds hosts switches cables
    → All (IsBetween (hosts + 2 * switches)) (flat_map (cable_links hosts levels) cables)
cables_between hosts switches levels [] ends = All-nil (IsBetween (hosts + 2 * switches))
cables_between hosts switches levels (c ∷ cs) ends =
    let here = All-head (λ (c : CableEnd × CableEnd). IsEnd hosts switches c.0 × IsEnd hosts switches c.1) c cs ends in
    let rest = All-tail (λ (c : CableEnd × CableEnd). IsEnd hosts switches c.0 × IsEnd hosts switches c.1) c cs ends in
    All-append (IsBetween (hosts + 2 * switches)) (cable_links hosts levels c) (flat_map (cable_links hosts levels) cs)
    (cable_between hosts switches levels c here.0 here.1) (cables_between hosts switches levels cs rest)

loops_between : (hosts switches : ℕ) → All (IsBetween (hosts + 2 * switches)) (map (loop_of hosts) (range_with_len 0 switches))
loops_between hosts switches =
    All-map (IsBetween (hosts + 2 * switches)) (loop_of hosts) (range_with_len 0 switches)
    (All-from_get_or (λ (s : ℕ). IsBetween (hosts + 2 * switches) (loop_of hosts s)) (range_with_len 0 switches) 0
    (λ i lt.
    let size = length-range_with_len 0 switches in
    let at = get_or-range_with_len 0 switches i 0 (omega arith) in
    (omega arith, omega arith)))

pub links_between_nodes : (plan : Plan) → IsPlan plan → All (IsBetween (plan.hosts + 2 * length plan.levels)) (plan_links plan.hosts plan.levels plan.cables)
links_between_nodes plan is =
    All-append (IsBetween (plan.hosts + 2 * length plan.levels)) (flat_map (cable_links plan.hosts plan.levels) plan.cables) (map (loop_of plan.hosts) (range_with_len 0 (length plan.levels)))
    (cables_between plan.hosts (length plan.levels) plan.levels plan.cables is.ends)
    (loops_between plan.hosts (length plan.levels))

pub cable_link_count : (hosts : ℕ) (levels : List ℕ) (cables : List (CableEnd × CableEnd)) → length (flat_map (cable_links hosts levels) cables) ≡ 2 * length cables
cable_link_count hosts levels [] = refl
cable_link_count hosts levels (c ∷ cs) =
    omega (arith, length-append (cable_links hosts levels c) (flat_map (cable_links hosts levels) cs), cable_link_count hosts levels cs)

-- the two links of the k-th cable have the numbers 2 k and 2 k + 1
pub links_at : (hosts : ℕ) (levels : List ℕ) (cables : List (CableEnd × CableEnd)) (loops : List Link) (k : ℕ) (other : CableEnd × CableEnd) → k < length cables
    → (get_or (flat_map (cable_links hosts levels) cables ++ loops) (2 * k) no_link ≡ get_or (cable_links hosts levels (get_or cables k other)) 0 no_link)
    × (get_or (flat_map (cable_links hosts levels) cables ++ loops) (2 * k + 1) no_link ≡ get_or (cable_links hosts levels (get_or cables k other)) 1 no_link)
links_at hosts levels [] loops k other lt = absurd (omega arith)
links_at hosts levels (c ∷ cs) loops zero other lt = (refl, refl)
links_at hosts levels (c ∷ cs) loops (suc k) other lt =
    let rest = links_at hosts levels cs loops k other (omega arith) in
    let up : 2 * suc k ≡ suc (suc (2 * k)) = omega arith in
    let down : 2 * suc k + 1 ≡ suc (suc (2 * k + 1)) = omega arith in
    (rw up rest.0, rw down rest.1)

-- two links a cable and one a switch
pub link_count : (hosts : ℕ) (levels : List ℕ) (cables : List (CableEnd × CableEnd)) → length (plan_links hosts levels cables) ≡ 2 * length cables + length levels
link_count hosts levels cables =
    omega (
      arith,
      length-append (flat_map (cable_links hosts levels) cables) (map (loop_of hosts) (range_with_len 0 (length levels))),
      cable_link_count hosts levels cables,
      length-map-range_with_len (loop_of hosts) 0 (length levels),
    )

pub plan_is_graph : (plan : Plan) → IsPlan plan → IsGraph (graph_of plan)
plan_is_graph plan is = record {
  hosts_in = omega arith;
  tails_in = λ l lt. (links_between_nodes plan is l no_link lt).0;
  heads_in = λ l lt. (links_between_nodes plan is l no_link lt).1;
}

pub plan_is_network : (plan : Plan) → IsPlan plan → IsNetwork (graph_of plan) (length plan.levels)
plan_is_network plan is = record {
  is_graph = plan_is_graph plan is;
  halves = refl;
  few_hosts = is.small.few_hosts;
  few_switches = is.small.few_switches;
  few_links = let count = link_count plan.hosts plan.levels plan.cables in omega (arith, count, is.small.few_cables, is.small.few_switches);
  short = omega arith;
}
