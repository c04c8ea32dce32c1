-- The names of the nodes of a network, and the ranges of what a topology part says of it.
use Rattle.std.specs.Prelude.{◌≡◌, ◌≢◌, ℕ, ◌+◌, ◌*◌, ◌≤◌, true, List, length, All, AllPairs}
use Rattle.pipe_base.specs.Limits.{most_patience}
use Rattle.pipe_topo.specs.declared.plan.Plan.{Plan}
use Rattle.pipe_topo.specs.NodeNames.{node_names}
use Rattle.pipe_text_plan.specs.Name.{is_name}
use Rattle.pipe_text_plan.specs.Switch.{most_level}

-- The names are those of the nodes of a plan: made of as many names as it has hosts and switches, the hosts' first, each of
-- them a name and all different. So each node has one.
pub record HasNodeNames (names : List (List ℕ)) (plan : Plan) : Type 0 where
  pub given : List (List ℕ)
  pub made : names ≡ node_names plan.hosts given
  pub count : length given ≡ plan.hosts + length plan.levels
  pub right : All (λ name. is_name name ≡ true) given
  pub different : AllPairs (λ a b. a ≢ b) given
  pub nodes : length names ≡ plan.hosts + 2 * length plan.levels

-- the levels and the patience are in their ranges
pub record IsInRange (plan : Plan) : Type 0 where
  pub levels : All (λ level. (1 ≤ level) × (level ≤ most_level)) plan.levels
  pub patience : (1 ≤ plan.patience.0) × (plan.patience.0 ≤ most_patience)
