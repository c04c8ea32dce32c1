-- The tables that a topology keeps beside its links.
use Rattle.std.specs.Prelude.{◌≡◌, ℕ, ◌+◌, ◌*◌, ◌<◌, ◌≤◌, ◌==◌, List, [], length, map, filter, slice_index_or, All}
use Rattle.std.specs.List.{range_with_len}
use Rattle.pipe_base.specs.declared.name.LinkId.{LinkId}
use Rattle.pipe_base.specs.declared.name.Link.{Link}
use Rattle.pipe_graph.specs.Graph.{Graph, IsGraph, ins_of, outs_of, link_id, no_link}
use Rattle.pipe_topo.specs.declared.plan.CableEnd.{CableEnd}
use Rattle.pipe_topo.specs.declared.plan.CableEnd.TheVariants.{Host, Switch}
use Rattle.pipe_base.specs.Limits.{most_hosts, most_switches, most_links, last_stamp}

-- A graph within the limits of networks: 64 hosts, 64 switches with two halves and a loop each, and 512 cables with two links
-- each; and within those of clocks.
pub record IsNetwork (graph : Graph) (switches : ℕ) : Type 0 where
  pub is_graph : IsGraph graph
  pub halves : graph.nodes ≡ graph.hosts + 2 * switches
  pub few_hosts : graph.hosts ≤ most_hosts
  pub few_switches : switches ≤ most_switches
  pub few_links : length graph.links ≤ most_links
  pub short : graph.top ≤ last_stamp

-- for each node the list has the node's links, and these are of the graph
pub record IsTable (graph : Graph) (links_of : ℕ → List LinkId) (table : List (List LinkId)) : Type 0 where
  pub size : length table ≡ graph.nodes
  pub lists : (node : ℕ) → node < graph.nodes → slice_index_or table node [] ≡ links_of node
  pub known : (node : ℕ) → node < graph.nodes → All (λ l. l.0 < length graph.links) (slice_index_or table node [])

-- the tables of the links into each node and out of it
pub record HasTables (graph : Graph) (switches : ℕ) (ins outs : List (List LinkId)) : Type 0 where
  pub network : IsNetwork graph switches
  pub ins_are : IsTable graph (ins_of graph) ins
  pub outs_are : IsTable graph (outs_of graph) outs

-- where a link of a list begins
abbrev pub tail_at : List Link → ℕ → ℕ
tail_at links l = (slice_index_or links l no_link).tail.0

-- where a link of a list ends
abbrev pub head_at : List Link → ℕ → ℕ
head_at links l = (slice_index_or links l no_link).head.0

-- the table has, for each node, those of the first so many links whose end is the node
pub record IsListed (end : ℕ → ℕ) (nodes count : ℕ) (table : List (List LinkId)) : Type 0 where
  pub size : length table ≡ nodes
  pub lists : (node : ℕ) → node < nodes
      → slice_index_or table node [] ≡ filter (λ l. end l.0 == node) (map link_id (range_with_len 0 count))

-- the end is a host, or a switch below the limit
abbrev pub IsSmallEnd : CableEnd → Type 0
IsSmallEnd (Host h) = Unit {0}
IsSmallEnd (Switch s) = s < most_switches
