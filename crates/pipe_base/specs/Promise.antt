-- What a sender promises: no reliable scattering below it is undecided.
use Rattle.std.specs.Prelude.{ℕ, min, List, [], ◌∷◌}
use Rattle.pipe_base.specs.Scattering.{Scattering, SenderCall}
use Rattle.pipe_base.specs.Settled.{unsettled}

-- the least of a number and the timestamps of scatterings
abbrev pub least_from : ℕ → List Scattering → ℕ
least_from n [] = n
least_from n (s ∷ ss) = min s.ts.0 (least_from n ss)

-- the least timestamp of scatterings, or `next` where there is none
abbrev pub least_or : ℕ → List Scattering → ℕ
least_or next [] = next
least_or next (s ∷ ss) = least_from s.ts.0 ss

-- The promise: the least timestamp of a scattering that is not settled, or the next timestamp where there is none.
abbrev pub promise_of : ℕ → List SenderCall → ℕ
promise_of next calls = least_or next (unsettled calls)
