-- The graph that a plan stands for.
use Rattle.std.specs.Prelude.{ℕ, ◌+◌, ◌*◌, ◌<◌, ◌≤◌, nat_lt, if◌then◌else◌, Bool, true, false, List, [], ◌∷◌, ◌++◌, length, map, slice_index_or, All}
use Rattle.std.specs.List.{flat_map, range_with_len}
use Rattle.pipe_base.specs.declared.name.Link.{Link}
use Rattle.pipe_base.specs.declared.name.Ts.{Ts}
use Rattle.pipe_graph.specs.Graph.{Graph}
use Rattle.pipe_topo.specs.declared.plan.CableEnd.{CableEnd}
use Rattle.pipe_topo.specs.declared.plan.CableEnd.TheVariants.{Host, Switch}
use Rattle.pipe_topo.specs.declared.plan.Plan.{Plan}
use Rattle.pipe_base.specs.Limits.{most_hosts, most_switches, most_cables, last_stamp}

-- the node of a cable's end for what goes up the cable: the host, or the up half of the switch
abbrev pub up_node : ℕ → CableEnd → ℕ
up_node hosts (Host h) = h
up_node hosts (Switch s) = hosts + 2 * s

-- the same for what goes down: the host, or the down half
abbrev pub down_node : ℕ → CableEnd → ℕ
down_node hosts (Host h) = h
down_node hosts (Switch s) = hosts + 2 * s + 1

-- a switch's level
abbrev pub level_of : List ℕ → ℕ → ℕ
level_of levels switch = slice_index_or levels switch 0

-- the second end is higher than the first: any switch is higher than a host
abbrev pub rises : List ℕ → CableEnd → CableEnd → Bool
rises levels (Host h) to = true
rises levels (Switch a) (Host h) = false
rises levels (Switch a) (Switch b) = nat_lt (level_of levels a) (level_of levels b)

-- the ends of a cable, the lower one first
abbrev pub lower_first : List ℕ → CableEnd × CableEnd → CableEnd × CableEnd
lower_first levels cable = if rises levels cable.0 cable.1 then cable else (cable.1, cable.0)

-- a link from one node to another
abbrev pub joined : ℕ → ℕ → Link
joined tail head = record { tail = record { 0 = tail }; head = record { 0 = head } }

-- the two links of a cable, given with its lower end first: the one that goes up, and the one that goes down
abbrev pub links_between : ℕ → CableEnd × CableEnd → List Link
links_between hosts cable =
    joined (up_node hosts cable.0) (up_node hosts cable.1) ∷ joined (down_node hosts cable.1) (down_node hosts cable.0) ∷ []

-- the two links of a cable, whichever end is given first
abbrev pub cable_links : ℕ → List ℕ → CableEnd × CableEnd → List Link
cable_links hosts levels cable = links_between hosts (lower_first levels cable)

-- the loop link of a switch, from its up half to its down half
abbrev pub loop_of : ℕ → ℕ → Link
loop_of hosts switch = joined (up_node hosts (Switch switch)) (down_node hosts (Switch switch))

-- the links in their order: those of each cable, then each switch's loop
abbrev pub plan_links : ℕ → List ℕ → List (CableEnd × CableEnd) → List Link
plan_links hosts levels cables =
    flat_map (cable_links hosts levels) cables ++ map (loop_of hosts) (range_with_len 0 (length levels))

-- the graph of a network: its hosts, two halves for each switch, and its links in their order
abbrev pub network_of : ℕ → ℕ → List Link → Ts → Ts → Graph
network_of hosts switches links patience top = record {
  hosts = hosts;
  nodes = hosts + 2 * switches;
  links = links;
  patience = patience.0;
  top = top.0;
  spares = [];
}

-- the graph of a plan, in which clocks have 48 bits
abbrev pub graph_of : Plan → Graph
graph_of plan =
    network_of plan.hosts (length plan.levels) (plan_links plan.hosts plan.levels plan.cables) plan.patience (record { 0 = last_stamp })

-- the end is a host or a switch of the plan
abbrev pub IsEnd : ℕ → ℕ → CableEnd → Type 0
IsEnd hosts switches (Host h) = h < hosts
IsEnd hosts switches (Switch s) = s < switches

-- both ends of each cable are of the plan
abbrev pub HasEnds : ℕ → ℕ → List (CableEnd × CableEnd) → Type 0
HasEnds hosts switches cables = All (λ c. IsEnd hosts switches c.0 × IsEnd hosts switches c.1) cables

-- the plan is within the limits
pub record IsSmall (hosts switches cables : ℕ) : Type 0 where
  pub few_hosts : hosts ≤ most_hosts
  pub few_switches : switches ≤ most_switches
  pub few_cables : cables ≤ most_cables

-- a plan within the limits, whose cables join what the plan has
pub record IsPlan (plan : Plan) : Type 0 where
  pub small : IsSmall plan.hosts (length plan.levels) (length plan.cables)
  pub ends : HasEnds plan.hosts (length plan.levels) plan.cables
