-- A star has no fault: none of its shape, and its links join any two hosts.
use Rattle.std.proofs.Common.{◌≡◌, ℕ, ◌+◌, ◌*◌, ◌-◌, ◌<◌, ◌≤◌, true, false, List, [], ◌∷◌, length, map, take, get_or, Option, None, option_map, refl, sym, ap, subst, ◌∙◌, arith}
use Rattle.std.specs.List.{flat_map, list_any, position_or_len, range_with_len}
use Rattle.std.proofs.lemmas.Bool.{le-leb, le-ltb, ne_eqb}
use Rattle.std.proofs.lemmas.List.{get_or-append_right, get_or-take, length-take-le}
use Rattle.std.proofs.lemmas.List.Folds.{list_any_at, list_any_none}
use Rattle.std.proofs.lemmas.List.FromFn.{get_or-map-range_with_len, length-map-range_with_len}
use Rattle.std.proofs.lemmas.List.Sums.{position_or_len_is}
use Rattle.pipe_base.specs.declared.name.Link.{Link}
use Rattle.pipe_base.specs.declared.name.Ts.{Ts}
use Rattle.pipe_graph.specs.Graph.{Graph, head_of, no_link}
use Rattle.pipe_graph.specs.Path.{every_link, IsPath}
use Rattle.pipe_graph.specs.Reach.{JoinsAllHosts}
use Rattle.pipe_graph.proofs.Rounds.{is_reach}
use Rattle.pipe_topo.specs.declared.fault.TopoFault.{TopoFault}
use Rattle.pipe_topo.specs.declared.fault.TopoFault.TheVariants.{DoubleCable}
use Rattle.pipe_topo.specs.declared.plan.CableEnd.{CableEnd}
use Rattle.pipe_topo.specs.declared.plan.CableEnd.TheVariants.{Switch}
use Rattle.pipe_topo.specs.Fault.{is_level, level_fault, same_ends, no_cable, repeats, double_fault, leads_down, idle_fault, shape_fault, apart_fault, fault_of}
use Rattle.std.specs.Option.{option_or}
use Rattle.pipe_topo.specs.Plan.{up_node, down_node, joined, cable_links, loop_of, plan_links, graph_of, IsEnd, HasEnds, IsPlan}
use Rattle.pipe_topo.specs.Star.{host_cable, star_plan}
use Rattle.pipe_topo.proofs.FaultLaws.{joined_none_apart}
use Rattle.pipe_topo.proofs.FirstLaws.{none_first}
use Rattle.pipe_topo.proofs.LinkLaws.{cable_link_count, link_count, links_at, plan_is_graph}

abbrev star_cables : ℕ → List (CableEnd × CableEnd)
star_cables n = map host_cable (range_with_len 0 n)

cable_count : (n : ℕ) → length (star_cables n) ≡ n
cable_count n = length-map-range_with_len host_cable 0 n

cable_at : (n k : ℕ) (other : CableEnd × CableEnd) → k < n → get_or (star_cables n) k other ≡ host_cable k
cable_at n k other lt = get_or-map-range_with_len host_cable 0 n k k other lt (omega arith)

no_level_fault : (n : ℕ) → level_fault (1 ∷ []) (star_cables n) ≡ None
no_level_fault n =
    let count = length (star_cables n) in
    let none : position_or_len (is_level (1 ∷ [])) (star_cables n) ≡ count =
    position_or_len_is (is_level (1 ∷ [])) (star_cables n) count no_cable (omega arith)
    (λ k lt. ap (is_level (1 ∷ [])) (cable_at n k no_cable (omega (arith, cable_count n, lt))))
    (λ lt. absurd (omega arith)) in
    rw none (rw (le-ltb count count (omega arith)) refl)

differ : (j k : ℕ) → j < k → same_ends (host_cable j) (host_cable k) ≡ false
differ j k lt = rw (ne_eqb j k (λ same. omega arith)) refl

no_repeat : (n k : ℕ) → k < n → repeats (star_cables n) k ≡ false
no_repeat n k lt =
    list_any_none (λ (c : CableEnd × CableEnd). same_ends c (get_or (star_cables n) k no_cable)) (take k (star_cables n))
    (λ j other j_lt.
    let before : j < k = omega (arith, length-take-le k (star_cables n) (omega (arith, cable_count n, lt)), j_lt) in
    let is : get_or (take k (star_cables n)) j other ≡ host_cable j = get_or-take k (star_cables n) j other before ∙ cable_at n j other (omega arith) in
    (λ i. same_ends (is i) (cable_at n k no_cable lt i)) ∙ differ j k before)

no_double_fault : (n : ℕ) → double_fault (star_cables n) ≡ None
no_double_fault n =
    ap (option_map (λ (i : ℕ). DoubleCable i))
    (none_first (repeats (star_cables n)) (length (star_cables n)) (λ k lt. no_repeat n k (omega (arith, cable_count n, lt))))

no_idle_fault : (n : ℕ) → 1 ≤ n → idle_fault (1 ∷ []) (star_cables n) ≡ None
no_idle_fault n some =
    let down : list_any (leads_down (1 ∷ []) 0) (star_cables n) ≡ true =
    list_any_at (leads_down (1 ∷ []) 0) (star_cables n) 0 no_cable (omega (arith, cable_count n, some))
    (ap (leads_down (1 ∷ []) 0) (cable_at n 0 no_cable (omega arith))) in
    rw down refl

-- neither of the two is there
neither : (first later : Option TopoFault) → first ≡ None → later ≡ None → option_or first later ≡ None
neither first later no_first no_later = ap (λ (o : Option TopoFault). option_or o later) no_first ∙ no_later

no_shape_fault : (n : ℕ) → 1 ≤ n → n ≤ 64 → shape_fault n (1 ∷ []) (star_cables n) ≡ None
no_shape_fault n some few =
    let size = cable_count n in
    rw (ne_eqb n 0 (λ none. omega arith), le-ltb 64 n few, le-ltb 512 (length (star_cables n)) (omega arith), no_level_fault n, no_double_fault n)
    (no_idle_fault n some)

abbrev star_links : ℕ → List Link
star_links n = plan_links n (1 ∷ []) (star_cables n)

-- a host's link up to the switch, and the one down from it
host_links : (n h : ℕ) → h < n
    → (get_or (star_links n) (2 * h) no_link ≡ joined h (up_node n (Switch 0))) × (get_or (star_links n) (2 * h + 1) no_link ≡ joined (down_node n (Switch 0)) h)
host_links n h lt =
    let found = links_at n (1 ∷ []) (star_cables n) (map (loop_of n) (range_with_len 0 1)) h no_cable (omega (arith, cable_count n, lt)) in
    let is = cable_at n h no_cable lt in (
      found.0 ∙ ap (λ (c : CableEnd × CableEnd). get_or (cable_links n (1 ∷ []) c) 0 no_link) is,
      found.1 ∙ ap (λ (c : CableEnd × CableEnd). get_or (cable_links n (1 ∷ []) c) 1 no_link) is,
    )

loop_link : (n : ℕ) → get_or (star_links n) (2 * n) no_link ≡ loop_of n 0
loop_link n =
    let ups_and_downs = flat_map (cable_links n (1 ∷ [])) (star_cables n) in
    let count : length ups_and_downs ≡ 2 * n = omega (arith, cable_link_count n (1 ∷ []) (star_cables n), cable_count n) in
    let first : 2 * n - 2 * n ≡ 0 = omega arith in
    get_or-append_right ups_and_downs (map (loop_of n) (range_with_len 0 1)) (2 * n) (2 * n) no_link count (omega arith)
    ∙ ap (λ (k : ℕ). get_or (map (loop_of n) (range_with_len 0 1)) k no_link) first

-- up to a half, along to another, and down
three_links : (g : Graph) (a up down b first second third : ℕ) → first < length g.links → second < length g.links → third < length g.links
    → get_or g.links first no_link ≡ joined a up → get_or g.links second no_link ≡ joined up down → get_or g.links third no_link ≡ joined down b
    → g.hosts ≤ up → g.hosts ≤ down → IsPath g every_link a b (first ∷ second ∷ third ∷ [])
three_links g a up down b first second third first_in second_in third_in first_is second_is third_is up_half down_half =
    let tail : Link → ℕ = λ (l : Link). l.tail.0 in
    let head : Link → ℕ = λ (l : Link). l.head.0 in
    let at_up = ap head first_is in
    let at_down = ap head second_is in (
      record { known = first_in; used = refl; begins = ap tail first_is },
      (
        le-leb g.hosts (head_of g first) (omega arith),
        record { known = second_in; used = refl; begins = ap tail second_is ∙ sym at_up },
        (
          le-leb g.hosts (head_of g second) (omega arith),
          record { known = third_in; used = refl; begins = ap tail third_is ∙ sym at_down },
          ap head third_is,
        ),
      ),
    )

-- each cable of a star joins a host and the switch
pub star_ends : (n : ℕ) → HasEnds n 1 (map host_cable (range_with_len 0 n))
star_ends n = λ k other lt.
    let below : k < n = omega (arith, lt, cable_count n) in
    subst (λ (cable : CableEnd × CableEnd). IsEnd n 1 cable.0 × IsEnd n 1 cable.1) (sym (cable_at n k other below)) (below, omega arith)

star_is_plan : (n : ℕ) (patience : Ts) → n ≤ 64 → IsPlan (star_plan n patience)
star_is_plan n patience few = record {
  small = record { few_hosts = few; few_switches = omega arith; few_cables = omega (arith, cable_count n, few) };
  ends = star_ends n;
}

star_joins : (n : ℕ) (patience : Ts) → n ≤ 64 → JoinsAllHosts (graph_of (star_plan n patience))
star_joins n patience few a b a_lt b_lt =
    let g = graph_of (star_plan n patience) in
    let count : length g.links ≡ 2 * n + 1 = omega (arith, link_count n (1 ∷ []) (star_cables n), cable_count n) in
    is_reach g every_link a b ((2 * a) ∷ (2 * n) ∷ (2 * b + 1) ∷ []) (plan_is_graph (star_plan n patience) (star_is_plan n patience few))
    (three_links g a (up_node n (Switch 0)) (down_node n (Switch 0)) b (2 * a) (2 * n) (2 * b + 1)
    (omega (arith, count, a_lt)) (omega (arith, count)) (omega (arith, count, b_lt))
    (host_links n a a_lt).0 (loop_link n) (host_links n b b_lt).1 (omega arith) (omega arith))

pub star_no_fault : (n : ℕ) (patience : Ts) → 1 ≤ n → n ≤ 64 → fault_of (star_plan n patience) ≡ None
star_no_fault n patience some few =
    neither (shape_fault n (1 ∷ []) (star_cables n)) (apart_fault (graph_of (star_plan n patience)))
    (no_shape_fault n some few)
    (joined_none_apart (graph_of (star_plan n patience)) (star_joins n patience few))
