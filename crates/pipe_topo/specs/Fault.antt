-- The first fault of a plan.
use Rattle.std.specs.Prelude.{ℕ, ◌==◌, nat_lt, nat_le, ◌&&◌, ◌||◌, not, if◌then◌else◌, Bool, true, false, List, length, take, position, slice_index_or, Option, None, Some, is_some, option_map}
use Rattle.std.specs.List.{list_any}
use Rattle.std.specs.Option.{option_or}
use Rattle.pipe_graph.specs.Graph.{Graph}
use Rattle.pipe_graph.specs.Path.{every_link}
use Rattle.pipe_graph.specs.Reach.{reaches}
use Rattle.pipe_topo.specs.declared.fault.TopoFault.{TopoFault}
use Rattle.pipe_topo.specs.declared.fault.TopoFault.TheVariants.{NoHost, TooMany, Level, DoubleCable, Idle, Apart}
use Rattle.pipe_topo.specs.declared.fault.What.{What}
use Rattle.pipe_topo.specs.declared.fault.What.TheVariants.{Hosts, Switches, Cables}
use Rattle.pipe_topo.specs.declared.plan.CableEnd.{CableEnd}
use Rattle.pipe_topo.specs.declared.plan.CableEnd.TheVariants.{Host, Switch}
use Rattle.pipe_topo.specs.declared.plan.Plan.{Plan}
use Rattle.pipe_topo.specs.First.{first_below}
use Rattle.pipe_topo.specs.Plan.{level_of, lower_first, graph_of}
use Rattle.pipe_base.specs.Limits.{most_hosts, most_switches, most_cables}

-- the plan has no host
abbrev pub no_hosts : ℕ → Option TopoFault
no_hosts hosts = if hosts == 0 then Some NoHost else None

-- there are more than so many of a kind
abbrev pub too_many : What → ℕ → ℕ → Option TopoFault
too_many what limit count = if nat_lt limit count then Some (TooMany what count) else None

-- the ends are two hosts, or two switches of one level
abbrev pub are_level : List ℕ → CableEnd → CableEnd → Bool
are_level levels (Host a) (Host b) = true
are_level levels (Switch a) (Switch b) = level_of levels a == level_of levels b
are_level levels _ _ = false

-- the cable joins two hosts, or two switches of one level
abbrev pub is_level : List ℕ → CableEnd × CableEnd → Bool
is_level levels cable = are_level levels cable.0 cable.1

-- the first cable that does not rise
abbrev pub level_fault : List ℕ → List (CableEnd × CableEnd) → Option TopoFault
level_fault levels cables = option_map (λ i. Level i) (position (is_level levels) cables)

-- the ends are one host or one switch
abbrev pub same_end : CableEnd → CableEnd → Bool
same_end (Host a) (Host b) = a == b
same_end (Switch a) (Switch b) = a == b
same_end _ _ = false

-- the cables join the same two, in either order
abbrev pub same_ends : CableEnd × CableEnd → CableEnd × CableEnd → Bool
same_ends c d = (same_end c.0 d.0 && same_end c.1 d.1) || (same_end c.0 d.1 && same_end c.1 d.0)

-- what is read past the last cable
abbrev pub no_cable : CableEnd × CableEnd
no_cable = (Host 0, Host 0)

-- an earlier cable joins the same two
abbrev pub repeats : List (CableEnd × CableEnd) → ℕ → Bool
repeats cables i = list_any (λ c. same_ends c (slice_index_or cables i no_cable)) (take i cables)

-- the first cable that joins what an earlier one joins
abbrev pub double_fault : List (CableEnd × CableEnd) → Option TopoFault
double_fault cables = option_map (λ i. DoubleCable i) (first_below (repeats cables) (length cables))

-- the cable leads from the switch down to a host or a lower switch
abbrev pub leads_down : List ℕ → ℕ → CableEnd × CableEnd → Bool
leads_down levels switch cable = same_end (lower_first levels cable).1 (Switch switch)

-- no cable leads down from the switch
abbrev pub is_idle : List ℕ → List (CableEnd × CableEnd) → ℕ → Bool
is_idle levels cables switch = not (list_any (leads_down levels switch) cables)

-- the first idle switch
abbrev pub idle_fault : List ℕ → List (CableEnd × CableEnd) → Option TopoFault
idle_fault levels cables = option_map (λ s. Idle s) (first_below (is_idle levels cables) (length levels))

-- what can be seen without looking for paths
abbrev pub shape_fault : ℕ → List ℕ → List (CableEnd × CableEnd) → Option TopoFault
shape_fault hosts levels cables =
    option_or (no_hosts hosts)
    (option_or (too_many Hosts most_hosts hosts)
    (option_or (too_many Switches most_switches (length levels))
    (option_or (too_many Cables most_cables (length cables))
    (option_or (level_fault levels cables)
    (option_or (double_fault cables)
    (idle_fault levels cables))))))

-- the second host is the first or comes after it, and is not reached from it by all links
abbrev pub is_apart : Graph → ℕ → ℕ → Bool
is_apart graph a b = nat_le a b && not (reaches graph every_link a b)

-- the first host that is apart from this one
abbrev pub apart_from : Graph → ℕ → Option ℕ
apart_from graph a = first_below (is_apart graph a) graph.hosts

-- the fault that names a host, and the first host that is apart from it
abbrev pub apart_at : Graph → Option ℕ → Option TopoFault
apart_at graph None = None
apart_at graph (Some a) = option_map (λ b. Apart a b) (apart_from graph a)

-- the first pair of hosts that are apart, in order of the first and then of the second
abbrev pub apart_fault : Graph → Option TopoFault
apart_fault graph = apart_at graph (first_below (λ a. is_some (apart_from graph a)) graph.hosts)

-- the first fault of a plan: what can be seen without looking for paths comes before two hosts that are apart
abbrev pub fault_of : Plan → Option TopoFault
fault_of plan = option_or (shape_fault plan.hosts plan.levels plan.cables) (apart_fault (graph_of plan))
