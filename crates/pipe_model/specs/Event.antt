-- Which events can happen: their names are those of the network.
use Rattle.std.specs.Prelude.{ℕ, ◌<◌, ◌≤◌, List, length, All, AllPairs, ◌≢◌}
use Rattle.pipe_base.specs.declared.name.HostId.{HostId}
use Rattle.pipe_graph.specs.Graph.{Graph}
use Rattle.pipe_base.specs.Limits.{most_receivers}
use Rattle.pipe_model.specs.declared.event.Event.{Event}
use Rattle.pipe_model.specs.declared.event.Event.TheVariants.{Send, Tick, Take, Lose, ControlTake, ControlLose, Decide, Crash, Cut}

-- one to sixteen receivers, all different and all hosts
pub record AreReceivers (graph : Graph) (dests : List (HostId × List ℕ)) : Type 0 where
  pub some : 0 < length dests
  pub few : length dests ≤ most_receivers
  pub known : All (λ d. d.0.0 < graph.hosts) dests
  pub different : AllPairs (λ a b. a.0.0 ≢ b.0.0) dests

-- a host of the network sends at a reading that a clock may have
pub record CanSend (graph : Graph) (host now : ℕ) (dests : List (HostId × List ℕ)) : Type 0 where
  pub host_in : host < graph.hosts
  pub reading : now ≤ graph.top
  pub receivers : AreReceivers graph dests

-- the names are those of the network, and readings are within the clock
abbrev pub IsOfGraph : Graph → Event → Type 0
IsOfGraph graph (Send host service now dests) = CanSend graph host.0 now.0 dests
IsOfGraph graph (Tick node now) = (node.0 < graph.nodes) × (now.0 ≤ graph.top)
IsOfGraph graph (Take link place keep) = link.0 < length graph.links
IsOfGraph graph (Lose link place) = link.0 < length graph.links
IsOfGraph graph (Crash node) = node.0 < graph.nodes
IsOfGraph graph (Cut link) = link.0 < length graph.links
IsOfGraph graph (ControlTake place keep) = Unit {0}
IsOfGraph graph (ControlLose place) = Unit {0}
IsOfGraph graph Decide = Unit {0}
