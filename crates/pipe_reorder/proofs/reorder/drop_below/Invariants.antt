use Rattle.std.proofs.Common.{◌≡◌, btree_map_len}
use Rattle.pipe_base.specs.Messages.{IsInOrder, from_barrier}
use Rattle.pipe_reorder.proofs.reorder.drop_below.Given as goal

abbrev pub invariant-entries : goal.invariant-entries
invariant-entries l = record {
  order : IsInOrder l.held.entries;
  left : from_barrier l.barrier.0 l.held.entries ≡ from_barrier l.barrier.0 l.initial.held.entries;
}

abbrev pub decreases-entries : goal.decreases-entries
decreases-entries l = btree_map_len l.held
