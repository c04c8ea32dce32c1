use Rattle.std.proofs.Common.{◌≡◌, ◌+◌, ◌++◌, take, vec_len, vec_capacity}
use Rattle.pipe_relsend.proofs.sender.copy_all.Given as goal

abbrev pub invariant-loop-unsettled : goal.invariant-loop-unsettled
invariant-loop-unsettled l = record {
  copied : l.copy.items ≡ l.initial.copy.items ++ take l.unsettled-index l.pending;
  count : vec_len l.copy ≡ vec_len l.initial.copy + l.unsettled-index;
  capacity : vec_capacity l.copy ≡ vec_capacity l.initial.copy;
}
