-- Faults in their order.
use Rattle.std.proofs.Common.{◌≡◌, Bool, true, false, cond, Option, Some, None, refl}
use Rattle.pipe_codec.specs.declared.bad.Bad.{Bad}

-- a fault that is none is none of a test, and none of what comes behind it
pub guard_none : (test : Bool) (bad : Bad) (behind : Option Bad) → cond test (Some bad) behind ≡ None → (test ≡ false) × (behind ≡ None)
guard_none true bad behind none = absurd cc
guard_none false bad behind none = (refl, none)
