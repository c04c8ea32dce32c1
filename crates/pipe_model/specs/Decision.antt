-- A decision of the controller: who must go is worked out; they are announced once all of them are cut off; dead links are
-- dropped once all kept hosts are done with those announced; who does not know it yet is told.
use Rattle.std.specs.Prelude.{ℕ, ◌==◌, ◌&&◌, ◌||◌, not, nat_lt, if◌then◌else◌, Bool, List, [], ◌∷◌, ◌++◌, length, map, filter, flat_map, Option, None, Some, is_some}
use Rattle.std.specs.List.{list_all, range_with_len}
use Rattle.pipe_base.specs.declared.control.Addressed.{Addressed}
use Rattle.pipe_base.specs.declared.control.Announced.{Announced}
use Rattle.pipe_base.specs.declared.control.Control.TheVariants.{DropLinks, Freeze, Notice}
use Rattle.pipe_base.specs.declared.control.To.TheVariants.{Node}
use Rattle.pipe_base.specs.declared.name.HostId.{HostId}
use Rattle.pipe_base.specs.declared.name.LinkId.{LinkId}
use Rattle.pipe_base.specs.declared.name.NodeId.{NodeId}
use Rattle.pipe_base.specs.declared.name.Ts.{Ts}
use Rattle.pipe_graph.specs.Cut.{is_cut}
use Rattle.pipe_graph.specs.Doomed.{doomed}
use Rattle.pipe_graph.specs.FailureTime.{failure_time}
use Rattle.pipe_graph.specs.Graph.{Graph, all_links, head_of, is_half, tail_of}
use Rattle.pipe_graph.specs.Reported.{is_reported}
use Rattle.pipe_graph.specs.Useless.{is_useless}
use Rattle.pipe_model.specs.View.{View, intact, is_due, is_kept}

abbrev pub host_id : ℕ → HostId
host_id n = record { 0 = n }

abbrev pub all_hosts : Graph → List HostId
all_hosts graph = map host_id (range_with_len 0 graph.hosts)

-- First: by the reports so far some hosts must go, besides those that must already.
abbrev pub after_doom : Graph → View → View
after_doom graph v = record v { doomed = doomed graph (intact v) v.members v.doomed }

-- the time from which on the messages of a host will be void: the greatest value reported of a live link that it feeds
abbrev pub time_at : Graph → View → ℕ → Option Ts
time_at graph v host = failure_time graph v.live v.reports host

-- a host can be announced once it is cut off from all kept hosts, and has a time
abbrev pub can_go : Graph → View → ℕ → Bool
can_go graph v host = is_cut graph (intact v) (is_kept v) host && is_some (time_at graph v host)

-- the hosts that are due, in rising number
abbrev pub due_hosts : Graph → View → List HostId
due_hosts graph v = filter (λ h. is_due v h.0) (all_hosts graph)

abbrev pub with_time : HostId → Option Ts → List Announced
with_time host None = []
with_time host (Some time) = record { host = host; time = time } ∷ []

-- all that are due are announced with their times, or none is
abbrev pub newly_announced : Graph → View → List Announced
newly_announced graph v =
    if list_all (λ h. can_go graph v h.0) (due_hosts graph v) then flat_map (λ h. with_time h (time_at graph v h.0)) (due_hosts graph v) else []

-- Then: those that are due are announced, as soon as all of them can go.
abbrev pub after_announce : Graph → View → View
after_announce graph v = record v { announced = v.announced ++ newly_announced graph v }

-- a host is no reason to wait: it is announced where it is doomed, and has noted all that were announced where it is kept
abbrev pub is_over : View → ℕ → Bool
is_over v host = not (is_due v host) && (not (is_kept v host) || (v.done host == length v.announced))

abbrev pub all_over : Graph → View → Bool
all_over graph v = list_all (λ h. is_over v h.0) (all_hosts graph)

-- a live link is dead where it was reported, and where no kept host feeds it any more
abbrev pub is_dead : Graph → View → ℕ → Bool
is_dead graph v link = v.live link && (is_reported v.reports link || is_useless graph (intact v) (is_kept v) link)

-- the links that are dropped, in rising number
abbrev pub newly_dead : Graph → View → List LinkId
newly_dead graph v = if all_over graph v then filter (λ l. is_dead graph v l.0) (all_links graph) else []

-- Last: dead links are dropped and the doomed hosts leave, as soon as no host is a reason to wait.
abbrev pub after_drop : Graph → View → View
after_drop graph v =
    if all_over graph v then record v {
      members = is_kept v;
      live = λ l. v.live l && not (is_dead graph v l);
      reports = λ l. None;
      dropped = v.dropped ++ newly_dead graph v;
    } else v

-- what the controller knows after a decision
abbrev pub after_decision : Graph → View → View
after_decision graph v = after_drop graph (after_announce graph (after_doom graph v))

-- an intact link out of a host that is due
abbrev pub is_frozen : Graph → View → LinkId → Bool
is_frozen graph v l = intact v l.0 && is_due v (tail_of graph l.0)

-- the head of the link is to take it down
abbrev pub freeze : Graph → LinkId → Addressed
freeze graph l = record { to = Node (record { 0 = head_of graph l.0 }); control = Freeze l }

abbrev pub freezes : Graph → View → List Addressed
freezes graph v = map (freeze graph) (filter (is_frozen graph v) (all_links graph))

-- a kept host that has not said that it noted all
abbrev pub is_behind : View → ℕ → Bool
is_behind v host = is_kept v host && nat_lt (v.done host) (length v.announced)

-- the host is told all that were announced
abbrev pub notice : View → HostId → Addressed
notice v host = record { to = Node (record { 0 = host.0 }); control = Notice v.announced }

abbrev pub notices : Graph → View → List Addressed
notices graph v = map (notice v) (filter (λ h. is_behind v h.0) (all_hosts graph))

abbrev pub node_id : ℕ → NodeId
node_id n = record { 0 = n }

abbrev pub all_nodes : Graph → List NodeId
all_nodes graph = map node_id (range_with_len 0 graph.nodes)

-- a half or a kept host that has not said that it knows all dropped links
abbrev pub lags : Graph → View → ℕ → Bool
lags graph v node = (is_half graph node || is_kept v node) && nat_lt (v.gone node) (length v.dropped)

-- the node is told all links that were dropped
abbrev pub drop_links : View → NodeId → Addressed
drop_links v node = record { to = Node node; control = DropLinks v.dropped }

abbrev pub drops : Graph → View → List Addressed
drops graph v = map (drop_links v) (filter (λ n. lags graph v n.0) (all_nodes graph))

-- what the controller puts after a decision, in order
abbrev pub messages : Graph → View → List Addressed
messages graph v = freezes graph v ++ notices graph v ++ drops graph v
