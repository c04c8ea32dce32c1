-- The graph of a plan is mirrored: each link of it, turned round, is a link of it.
use Rattle.std.proofs.Common.{◌≡◌, ℕ, ◌+◌, ◌*◌, ◌-◌, ◌%◌, ◌<◌, ◌==◌, nat_lt, if◌then◌else◌, Bool, true, false, List, [], ◌∷◌, ◌++◌, length, map, get_or, All, Contains, refl, sym, ap, subst, ◌∙◌, true≢false, arith}
use Rattle.std.specs.List.{flat_map, range_with_len}
use Rattle.std.proofs.lemmas.Bool.{lt-ltb, ltb-true, eq-eqb, eqb-true}
use Rattle.std.proofs.lemmas.List.{get_or_default}
use Rattle.std.proofs.lemmas.List.Elements.{All-nil, All-cons, All-head, All-tail, All-append, All-weaker, Contains-append_left, Contains-append_right, Contains-get_or}
use Rattle.std.proofs.lemmas.List.FromFn.{get_or-map-range_with_len, length-map-range_with_len}
use Rattle.pipe_base.specs.declared.name.Link.{Link}
use Rattle.pipe_graph.specs.Graph.{no_link}
use Rattle.pipe_graph.specs.Mirror.{mirror_of, IsMirrored}
use Rattle.pipe_topo.specs.declared.plan.CableEnd.{CableEnd}
use Rattle.pipe_topo.specs.declared.plan.CableEnd.TheVariants.{Host, Switch}
use Rattle.pipe_topo.specs.declared.plan.Plan.{Plan}
use Rattle.pipe_topo.specs.Plan.{up_node, down_node, joined, lower_first, cable_links, loop_of, graph_of, IsEnd, HasEnds, IsPlan}
use Rattle.pipe_topo.proofs.LinkLaws.{lower_ends}

-- the mirror of a host, of an up half and of a down half
mirror_host : (hosts h : ℕ) → h < hosts → mirror_of hosts h ≡ h
mirror_host hosts h lt = rw (lt-ltb h hosts lt) refl

mirror_up : (hosts s : ℕ) → mirror_of hosts (hosts + 2 * s) ≡ hosts + 2 * s + 1
mirror_up hosts s = pick (nat_lt (hosts + 2 * s) hosts) ((hosts + 2 * s - hosts) % 2 == 0) refl refl
  where
    pick : (below even : Bool) → nat_lt (hosts + 2 * s) hosts ≡ below → ((hosts + 2 * s - hosts) % 2 == 0) ≡ even
        → (if below then hosts + 2 * s else (if even then hosts + 2 * s + 1 else hosts + 2 * s - 1)) ≡ hosts + 2 * s + 1
    pick true even is e = let lt = ltb-true (hosts + 2 * s) hosts is in absurd (omega arith)
    pick false true is e = refl
    pick false false is e = let n : hosts + 2 * s - hosts ≡ 2 * s = omega arith in
        let zero_rest : (hosts + 2 * s - hosts) % 2 ≡ 0 = rw n (omega arith) in
        absurd (true≢false (sym (eq-eqb ((hosts + 2 * s - hosts) % 2) 0 zero_rest) ∙ e))

mirror_down : (hosts s : ℕ) → mirror_of hosts (hosts + 2 * s + 1) ≡ hosts + 2 * s
mirror_down hosts s = pick (nat_lt (hosts + 2 * s + 1) hosts) ((hosts + 2 * s + 1 - hosts) % 2 == 0) refl refl
  where
    pick : (below even : Bool) → nat_lt (hosts + 2 * s + 1) hosts ≡ below → ((hosts + 2 * s + 1 - hosts) % 2 == 0) ≡ even
        → (if below then hosts + 2 * s + 1 else (if even then hosts + 2 * s + 1 + 1 else hosts + 2 * s + 1 - 1)) ≡ hosts + 2 * s
    pick true even is e = let lt = ltb-true (hosts + 2 * s + 1) hosts is in absurd (omega arith)
    pick false false is e = omega arith
    pick false true is e = let n : hosts + 2 * s + 1 - hosts ≡ 2 * s + 1 = omega arith in
        let one_rest : (hosts + 2 * s + 1 - hosts) % 2 ≡ 1 = rw n (omega arith) in
        let zero_rest = eqb-true ((hosts + 2 * s + 1 - hosts) % 2) 0 e in
        absurd (omega arith)

up_turns : (hosts switches : ℕ) (end : CableEnd) → IsEnd hosts switches end → mirror_of hosts (up_node hosts end) ≡ down_node hosts end
up_turns hosts switches (Host h) is = mirror_host hosts h is
up_turns hosts switches (Switch s) is = mirror_up hosts s

down_turns : (hosts switches : ℕ) (end : CableEnd) → IsEnd hosts switches end → mirror_of hosts (down_node hosts end) ≡ up_node hosts end
down_turns hosts switches (Host h) is = mirror_host hosts h is
down_turns hosts switches (Switch s) is = mirror_down hosts s

-- the link turned round
abbrev turned : ℕ → Link → Link
turned hosts link = joined (mirror_of hosts link.head.0) (mirror_of hosts link.tail.0)

-- each link of a list, turned round, is among these
abbrev TurnsIn : ℕ → List Link → List Link → Type 0
TurnsIn hosts whole links = All (λ (l : Link). Contains whole (turned hosts l)) links

cable_turns : (hosts switches : ℕ) (levels : List ℕ) (cable : CableEnd × CableEnd) → IsEnd hosts switches cable.0 → IsEnd hosts switches cable.1
    → TurnsIn hosts (cable_links hosts levels cable) (cable_links hosts levels cable)
cable_turns hosts switches levels cable first second =
    let ends = lower_ends (IsEnd hosts switches) levels cable first second in
    let low = (lower_first levels cable).0 in
    let high = (lower_first levels cable).1 in
    let up = joined (up_node hosts low) (up_node hosts high) in
    let down = joined (down_node hosts high) (down_node hosts low) in
    let there : down ≡ turned hosts up = λ i. joined (sym (up_turns hosts switches high ends.1) i) (sym (up_turns hosts switches low ends.0) i) in
    let back : up ≡ turned hosts down = λ i. joined (sym (down_turns hosts switches low ends.0) i) (sym (down_turns hosts switches high ends.1) i) in
    let P : Link → Type 0 = λ (l : Link). Contains (cable_links hosts levels cable) (turned hosts l) in
    All-cons P up (down ∷ []) (subst (Contains (cable_links hosts levels cable)) there (Contains-get_or (cable_links hosts levels cable) 1 no_link (omega arith)))
    (All-cons P down [] (subst (Contains (cable_links hosts levels cable)) back (Contains-get_or (cable_links hosts levels cable) 0 no_link (omega arith))) (All-nil P))

cables_turn : (hosts switches : ℕ) (levels : List ℕ) (cables : List (CableEnd × CableEnd)) → HasEnds hosts switches cables
    → TurnsIn hosts (flat_map (cable_links hosts levels) cables) (flat_map (cable_links hosts levels) cables)
cables_turn hosts switches levels [] ends = All-nil (λ (l : Link). Contains [] (turned hosts l))
cables_turn hosts switches levels (c ∷ cs) ends =
    let here = All-head (λ (c : CableEnd × CableEnd). IsEnd hosts switches c.0 × IsEnd hosts switches c.1) c cs ends in
    let rest = All-tail (λ (c : CableEnd × CableEnd). IsEnd hosts switches c.0 × IsEnd hosts switches c.1) c cs ends in
    let front = cable_links hosts levels c in
    let back = flat_map (cable_links hosts levels) cs in
    let P : Link → Type 0 = λ (l : Link). Contains (front ++ back) (turned hosts l) in
    All-append P front back
    (All-weaker (λ (l : Link). Contains front (turned hosts l)) P (λ l in_front. Contains-append_left front back (turned hosts l) in_front) front
    (cable_turns hosts switches levels c here.0 here.1))
    (All-weaker (λ (l : Link). Contains back (turned hosts l)) P (λ l in_back. Contains-append_right front back (turned hosts l) in_back) back
    (cables_turn hosts switches levels cs rest))

loops_turn : (hosts switches : ℕ) → TurnsIn hosts (map (loop_of hosts) (range_with_len 0 switches)) (map (loop_of hosts) (range_with_len 0 switches))
loops_turn hosts switches k d lt =
    let loops = map (loop_of hosts) (range_with_len 0 switches) in
    let size = length-map-range_with_len (loop_of hosts) 0 switches in
    let item : get_or loops k d ≡ loop_of hosts k = get_or-map-range_with_len (loop_of hosts) 0 switches k k d (omega arith) (omega arith) in
    let itself : loop_of hosts k ≡ turned hosts (loop_of hosts k) = λ i. joined (sym (mirror_down hosts k) i) (sym (mirror_up hosts k) i) in
    subst (Contains loops) (item ∙ itself ∙ ap (turned hosts) (sym item)) (Contains-get_or loops k d lt)

links_turn : (plan : Plan) → IsPlan plan → TurnsIn plan.hosts (graph_of plan).links (graph_of plan).links
links_turn plan is =
    let front = flat_map (cable_links plan.hosts plan.levels) plan.cables in
    let back = map (loop_of plan.hosts) (range_with_len 0 (length plan.levels)) in
    let P : Link → Type 0 = λ (l : Link). Contains (front ++ back) (turned plan.hosts l) in
    All-append P front back
    (All-weaker (λ (l : Link). Contains front (turned plan.hosts l)) P (λ l in_front. Contains-append_left front back (turned plan.hosts l) in_front) front
    (cables_turn plan.hosts (length plan.levels) plan.levels plan.cables is.ends))
    (All-weaker (λ (l : Link). Contains back (turned plan.hosts l)) P (λ l in_back. Contains-append_right front back (turned plan.hosts l) in_back) back
    (loops_turn plan.hosts (length plan.levels)))

pub plan_mirrored : (plan : Plan) → IsPlan plan → IsMirrored (graph_of plan)
plan_mirrored plan is l lt =
    let link = get_or (graph_of plan).links l no_link in
    let found = links_turn plan is l no_link lt in
    let read : get_or (graph_of plan).links found.0 no_link ≡ turned plan.hosts link =
    get_or_default (graph_of plan).links found.0 no_link (turned plan.hosts link) found.1 ∙ found.2 in
    (found.0, found.1, ap (λ (k : Link). k.tail.0) read, ap (λ (k : Link). k.head.0) read)
