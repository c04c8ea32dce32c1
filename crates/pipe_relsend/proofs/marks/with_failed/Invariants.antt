use Rattle.std.proofs.Common.{◌≡◌, ◌||◌, ◌<◌, ◌≤◌, ℕ, List, false, get_or, length}
use Rattle.pipe_base.specs.declared.name.HostId.{HostId}
use Rattle.pipe_relsend.specs.Pending.{is_among}
use Rattle.pipe_relsend.proofs.marks.with_failed.Given as goal

-- those before `at` are marked where they are noted as failed, the others are as they were
abbrev pub invariant-loop-at : goal.invariant-loop-at
invariant-loop-at l = record {
  count : length l.marks ≡ 16;
  count_first : length l.initial.marks ≡ 16;
  done : (k : ℕ) (d : HostId × List ℕ) → k < l.at → get_or l.marks k false ≡ (get_or l.initial.marks k false || is_among l.noted (get_or l.dests k d));
  rest : (k : ℕ) → l.at ≤ k → get_or l.marks k false ≡ get_or l.initial.marks k false;
}
