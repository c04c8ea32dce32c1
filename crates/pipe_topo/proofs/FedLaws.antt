-- A plan without a fault has a host, joins all its hosts, and has a link into each node: into a host, since the host reaches
-- itself; into an up half a cable's, since its switch is not idle; and into a down half the loop.
use Rattle.std.proofs.Common.{◌≡◌, ℕ, ◌+◌, ◌*◌, ◌-◌, ◌/◌, ◌%◌, ◌<◌, ◌==◌, not, if◌then◌else◌, Bool, true, false, List, [], ◌∷◌, length, map, get_or, Option, None, Some, option_map, inl, inr, refl, sym, ap, subst, ◌∙◌, true≢false, arith, eqb-true, eq-eqb}
use Rattle.std.specs.List.{flat_map, list_any, range_with_len}
use Rattle.std.specs.Option.{option_or}
use Rattle.std.proofs.lemmas.Bool.Decides.{leb_tells, nat_tests}
use Rattle.std.proofs.lemmas.List.{get_or-append_right}
use Rattle.std.proofs.lemmas.List.Folds.{Any-from_list_any}
use Rattle.std.proofs.lemmas.List.FromFn.{get_or-map-range_with_len}
use Rattle.pipe_base.specs.declared.name.Link.{Link}
use Rattle.pipe_base.specs.declared.name.LinkId.{LinkId}
use Rattle.pipe_graph.specs.Graph.{Graph, head_of, ins_of, no_link}
use Rattle.pipe_graph.specs.Path.{Leads, every_link}
use Rattle.pipe_graph.specs.Reach.{JoinsAllHosts, leads_within}
use Rattle.pipe_graph.proofs.Listed.{listed_contains}
use Rattle.pipe_graph.proofs.ReachLaws.{goes_on_gives, within_leads}
use Rattle.pipe_topo.specs.declared.fault.TopoFault.{TopoFault}
use Rattle.pipe_topo.specs.declared.fault.TopoFault.TheVariants.{Idle, NoHost}
use Rattle.pipe_topo.specs.declared.fault.What.TheVariants.{Hosts, Switches, Cables}
use Rattle.pipe_topo.specs.declared.plan.CableEnd.{CableEnd}
use Rattle.pipe_topo.specs.declared.plan.CableEnd.TheVariants.{Host, Switch}
use Rattle.pipe_topo.specs.declared.plan.Plan.{Plan}
use Rattle.pipe_topo.specs.Fault.{apart_fault, double_fault, fault_of, idle_fault, is_idle, leads_down, level_fault, no_hosts, same_end, shape_fault, too_many}
use Rattle.pipe_topo.specs.Fed.{IsFed}
use Rattle.pipe_topo.specs.First.{first_below}
use Rattle.pipe_topo.specs.Plan.{HasEnds, IsPlan, cable_links, graph_of, loop_of, lower_first, up_node}
use Rattle.pipe_topo.proofs.FaultLaws.{neither, no_fault_joins, no_fault_small}
use Rattle.pipe_topo.proofs.FirstLaws.{first_none}
use Rattle.pipe_topo.proofs.LinkLaws.{cable_link_count, link_count, links_at}

-- a link of the graph that ends at the node is listed there
entered : (g : Graph) (node l : ℕ) → l < length g.links → head_of g l ≡ node → 0 < length (ins_of g node)
entered g node l lt is =
    let at = listed_contains (λ (k : LinkId). head_of g k.0 == node) (length g.links) l lt (eq-eqb (head_of g l) node is) in
    omega (arith, at.1)

-- ---- into a host

leads_enter : (g : Graph) (by : ℕ → Bool) (node end l : ℕ) (ls : List ℕ) → l < length g.links → head_of g l ≡ node → Leads g by node end ls → 0 < length (ins_of g end)
leads_enter g by node end l [] lt is there = entered g end l lt (is ∙ there)
leads_enter g by node end l (k ∷ ks) lt is leads = leads_enter g by (head_of g k) end k ks leads.1.known refl leads.2

host_entered : (g : Graph) (h : ℕ) → JoinsAllHosts g → h < g.hosts → 0 < length (ins_of g h)
host_entered g h joined lt =
    let found = goes_on_gives g every_link h (leads_within g every_link h g.nodes) (joined h h lt lt) in
    let way = within_leads g every_link h g.nodes (head_of g found.0) found.2 in
    leads_enter g every_link (head_of g found.0) h found.0 way.0 found.1.known refl way.1

-- ---- into a half

switch_end : (hosts s : ℕ) (end : CableEnd) → same_end end (Switch s) ≡ true → up_node hosts end ≡ hosts + 2 * s
switch_end hosts s (Host h) is = absurd (true≢false (sym is))
switch_end hosts s (Switch a) is = ap (λ (k : ℕ). hosts + 2 * k) (eqb-true a s is)

up_entered : (plan : Plan) (s : ℕ) → is_idle plan.levels plan.cables s ≡ false → 0 < length (ins_of (graph_of plan) (plan.hosts + 2 * s))
up_entered plan s busy =
    let loops : List Link = map (loop_of plan.hosts) (range_with_len 0 (length plan.levels)) in
    let found = Any-from_list_any (leads_down plan.levels s) plan.cables (leads (list_any (leads_down plan.levels s) plan.cables) busy) in
    let at = links_at plan.hosts plan.levels plan.cables loops found.0 found.1 found.2 in
    let count = link_count plan.hosts plan.levels plan.cables in
    entered (graph_of plan) (plan.hosts + 2 * s) (2 * found.0) (omega (arith, count, found.2))
    (ap (λ (l : Link). l.head.0) at.0 ∙ ap (λ (c : CableEnd × CableEnd). up_node plan.hosts (lower_first plan.levels c).1) found.3
    ∙ switch_end plan.hosts s (lower_first plan.levels found.1).1 found.4)
  where
    leads : (t : Bool) → not t ≡ false → t ≡ true
    leads true is = refl
    leads false is = absurd (true≢false is)

down_entered : (plan : Plan) (s : ℕ) → s < length plan.levels → 0 < length (ins_of (graph_of plan) (plan.hosts + 2 * s + 1))
down_entered plan s lt =
    let cabled : List Link = flat_map (cable_links plan.hosts plan.levels) plan.cables in
    let loops : List Link = map (loop_of plan.hosts) (range_with_len 0 (length plan.levels)) in
    let size = cable_link_count plan.hosts plan.levels plan.cables in
    let count = link_count plan.hosts plan.levels plan.cables in
    let number : ℕ = 2 * length plan.cables + s in
    let place : number - 2 * length plan.cables ≡ s = omega arith in
    entered (graph_of plan) (plan.hosts + 2 * s + 1) number (omega (arith, count, lt))
    (ap (λ (l : Link). l.head.0)
    (get_or-append_right cabled loops (2 * length plan.cables) number no_link size (omega arith)
    ∙ ap (λ (k : ℕ). get_or loops k no_link) place
    ∙ get_or-map-range_with_len (loop_of plan.hosts) 0 (length plan.levels) s s no_link lt (omega arith)))

-- ---- a plan without a fault

-- of faults in their order there is none: the first and the last are not there
first_and_last : (a b c d e f last : Option TopoFault) → option_or a (option_or b (option_or c (option_or d (option_or e (option_or f last))))) ≡ None
    → (a ≡ None) × (last ≡ None)
first_and_last (Some fault) b c d e f last none = absurd cc
first_and_last None (Some fault) c d e f last none = absurd cc
first_and_last None None (Some fault) d e f last none = absurd cc
first_and_last None None None (Some fault) e f last none = absurd cc
first_and_last None None None None (Some fault) f last none = absurd cc
first_and_last None None None None None (Some fault) last none = absurd cc
first_and_last None None None None None None last none = (refl, none)

some_host : (hosts : ℕ) → no_hosts hosts ≡ None → 0 < hosts
some_host hosts none = pick (hosts == 0) refl none
  where
    pick : (t : Bool) → (hosts == 0) ≡ t → (if t then Some NoHost else None) ≡ None → 0 < hosts
    pick true is some = absurd cc
    pick false is no_fault = grind (arith, nat_tests)

none_idle : (levels : List ℕ) (cables : List (CableEnd × CableEnd)) (s : ℕ) → idle_fault levels cables ≡ None → s < length levels → is_idle levels cables s ≡ false
none_idle levels cables s none lt = first_none (is_idle levels cables) (length levels) s (pick (first_below (is_idle levels cables) (length levels)) none) lt
  where
    pick : (o : Option ℕ) → option_map (λ s. Idle s) o ≡ None → o ≡ None
    pick None is = refl
    pick (Some k) is = absurd cc

half_entered : (plan : Plan) (s rest : ℕ) (even : Bool) → idle_fault plan.levels plan.cables ≡ None → s < length plan.levels → rest < 2 → (rest == 0) ≡ even
    → 0 < length (ins_of (graph_of plan) (plan.hosts + 2 * s + rest))
half_entered plan s rest true none lt small is =
    let same : plan.hosts + 2 * s ≡ plan.hosts + 2 * s + rest = let zero_rest = eqb-true rest 0 is in omega arith in
    subst (λ (n : ℕ). 0 < length (ins_of (graph_of plan) n)) same (up_entered plan s (none_idle plan.levels plan.cables s none lt))
half_entered plan s rest false none lt small is =
    let same : plan.hosts + 2 * s + 1 ≡ plan.hosts + 2 * s + rest = grind (arith, nat_tests) in
    subst (λ (n : ℕ). 0 < length (ins_of (graph_of plan) n)) same (down_entered plan s lt)

pub no_fault_fed : (plan : Plan) → IsPlan plan → fault_of plan ≡ None → IsFed (graph_of plan)
no_fault_fed plan is none =
    let shape = (neither (shape_fault plan.hosts plan.levels plan.cables) (apart_fault (graph_of plan)) none).0 in
    let ends = first_and_last (no_hosts plan.hosts) (too_many Hosts 64 plan.hosts) (too_many Switches 64 (length plan.levels)) (too_many Cables 512 (length plan.cables))
    (level_fault plan.levels plan.cables) (double_fault plan.cables) (idle_fault plan.levels plan.cables) shape in
    let joined : JoinsAllHosts (graph_of plan) = no_fault_joins plan is none in
    record {
      some = some_host plan.hosts ends.0;
      joined = joined;
      ins = λ node lt.
          elim (leb_tells plan.hosts node) [
            | inl half ↦
                let s : ℕ = (node - plan.hosts) / 2 in
                let rest : ℕ = (node - plan.hosts) % 2 in
                let same : plan.hosts + 2 * s + rest ≡ node = let past = half.1 in omega arith in
                subst (λ (n : ℕ). 0 < length (ins_of (graph_of plan) n)) same
                (half_entered plan s rest (rest == 0) ends.1 (omega arith) (omega arith) refl)
            | inr host ↦ host_entered (graph_of plan) node joined (let below = host.1 in omega arith)
          ];
    }

-- the graph that was made of a plan, where neither kind of fault was found; levels and cables are seen as slices
pub made_fed : (plan : Plan) (levels : List ℕ) (cables : List (CableEnd × CableEnd)) (g : Graph) (shape : Option TopoFault) → levels ≡ plan.levels → cables ≡ plan.cables
    → HasEnds plan.hosts (length plan.levels) plan.cables → shape ≡ shape_fault plan.hosts levels cables → shape ≡ None → g ≡ graph_of plan → apart_fault g ≡ None → IsFed g
made_fed plan levels cables g shape levels_are cables_are ends shape_is fine made none =
    let shaped : shape_fault plan.hosts plan.levels plan.cables ≡ None = (λ i. shape_fault plan.hosts (sym levels_are i) (sym cables_are i)) ∙ sym shape_is ∙ fine in
    let faultless : fault_of plan ≡ None = (λ i. option_or (shaped i) (apart_fault (sym made i))) ∙ none in
    subst IsFed (sym made) (no_fault_fed plan (record { small = no_fault_small plan faultless; ends = ends }) faultless)
