-- Lemmas on the table of who reaches whom, while it is made.
use Rattle.std.proofs.Common.{◌≡◌, ℕ, ◌<◌, Bool, List, [], length, get_or}
use Rattle.pipe_graph.specs.Graph.{Graph}
use Rattle.pipe_graph.specs.Reach.{reaches}
use Rattle.pipe_topo.specs.Sets.{has}

-- the table has the first so many hosts
pub record IsPartTable (g : Graph) (by : ℕ → Bool) (table : List (List Bool)) (count : ℕ) : Type 0 where
  pub size : length table ≡ count
  pub right : (a b : ℕ) → a < g.hosts → b < count → has (get_or table b []) a ≡ reaches g by a b
