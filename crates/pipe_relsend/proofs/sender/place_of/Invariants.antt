use Rattle.std.proofs.Common.{◌≢◌, ◌<◌, ℕ, get_or}
use Rattle.pipe_relsend.specs.Pending.{Pending}
use Rattle.pipe_relsend.proofs.sender.place_of.Given as goal

-- none before `at` has the timestamp
abbrev pub invariant-loop-at : goal.invariant-loop-at
invariant-loop-at l = (k : ℕ) (d : Pending) → k < l.at → (get_or l.pending k d).ts.0 ≢ l.ts.0
