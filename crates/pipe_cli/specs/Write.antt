-- What a failed write leaves.
use Rattle.std.specs.Prelude.{◌≡◌, ℕ, List, Option}
use Rattle.std.specs.Io.KnownBytes.{Keeps}
use Rattle.pipe_outside.specs.Outside.{Rose}

-- Nothing was written after a fault: the sink came without one to the call that failed, and what was written is what was
-- written before that call.
pub record EndsAtFault {K : Type 0} (written : K → Option (List ℕ)) (faults : K → ℕ) (old new : K) : Type 0 where
  pub before : K
  pub unfailed : faults before ≡ faults old
  pub failed : Rose (faults before) (faults new)
  pub kept : Keeps (written before) (written new)
