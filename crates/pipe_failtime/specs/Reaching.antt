-- Who reaches whom by a set of links, as a table.
use Rattle.std.specs.Prelude.{◌≡◌, ℕ, ◌<◌, ◌≤◌, Bool, List, [], length, slice_index_or}
use Rattle.pipe_graph.specs.Graph.{Graph}
use Rattle.pipe_graph.specs.Reach.{reaches}
use Rattle.pipe_topo.specs.Sets.{has}
use Rattle.pipe_base.specs.Limits.{most_hosts}

-- what the table is of: a graph, and a set of its links
pub record Reaching : Type 0 where
  pub graph : Graph
  pub by : List Bool

-- for each host the table has the set of the hosts that reach it
pub record IsReachTable (reaching : Reaching) (table : List (List Bool)) : Type 0 where
  pub few : reaching.graph.hosts ≤ most_hosts
  pub size : length table ≡ reaching.graph.hosts
  pub right : (a b : ℕ) → a < reaching.graph.hosts → b < reaching.graph.hosts
      → has (slice_index_or table b []) a ≡ reaches reaching.graph (has reaching.by) a b
