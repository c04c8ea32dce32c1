-- What a call to the outside may do to its count of faults.
use Rattle.std.specs.Prelude.{◌≡◌, ℕ, ◌+◌, ◌-◌, ◌^◌, ◌<◌, ◌≤◌, min, List, length, Result, OnOk, OnErr, IfOk}

-- the count rose, or stands at its end
abbrev pub Rose : ℕ → ℕ → Type 0
Rose before now = min (before + 1) (2 ^ 64 - 1) ≤ now

-- the count never falls, rises where the call failed, and stays where it did not
pub record HasCause {T E : Type 0} (before now : ℕ) (result : Result T E) : Type 0 where
  pub later : before ≤ now
  pub failed : OnErr result (Rose before now)
  pub kept : OnOk result (now ≡ before)

-- at most all bytes were written, and at least one where there is one
abbrev pub WritesSome : {E : Type 0} → List ℕ → Result ℕ E → Type 0
WritesSome bytes result = IfOk result (λ n. (n ≤ length bytes) × (0 < length bytes → 0 < n))
