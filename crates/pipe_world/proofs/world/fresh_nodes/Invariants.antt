use Rattle.std.proofs.Common.{◌≡◌, ℕ, ◌<◌, [], length}
use Rattle.std.specs.Prelude.{slice_index_or}
use Rattle.pipe_world.specs.declared.node.NodeState.{NodeState}
use Rattle.pipe_world.specs.Node as node
use Rattle.pipe_world.proofs.world.fresh_nodes.Given as goal

abbrev pub invariant-nodes : goal.invariant-nodes
invariant-nodes l = record {
  count : length l.nodes.items ≡ l.id;
  stand : (n : ℕ) (d : NodeState) → n < l.id → node.StandsIn l.topology n [] (slice_index_or l.nodes.items n d);
}
