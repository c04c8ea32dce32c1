use Rattle.std.proofs.Common.{◌≡◌}
use Rattle.std.specs.BTreeSet.{btree_set_len}
use Rattle.pipe_reorder.specs.Buffer.{keys_from}
use Rattle.pipe_reorder.proofs.reorder.drop_keys_below.Given as goal

abbrev pub invariant-keys : goal.invariant-keys
invariant-keys l = keys_from l.barrier.0 l.keys.keys ≡ keys_from l.barrier.0 l.initial.keys.keys

abbrev pub decreases-keys : goal.decreases-keys
decreases-keys l = btree_set_len l.keys
