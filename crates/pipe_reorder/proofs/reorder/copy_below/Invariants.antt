use Rattle.pipe_base.specs.Messages.{IsInOrder}
use Rattle.pipe_reorder.proofs.Walks.{HasCopied}
use Rattle.pipe_reorder.proofs.reorder.copy_below.Given as goal

abbrev pub invariant-entries : goal.invariant-entries
invariant-entries l = record {
  order : IsInOrder l.key-iterator;
  copied : HasCopied l.service l.failed l.tombstones.keys l.barrier.0 l.held.entries l.initial.out l.out l.key-iterator;
}
