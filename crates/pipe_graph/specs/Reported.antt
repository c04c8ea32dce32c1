-- Links by their reports. A report is the value of a link that went down.
use Rattle.std.specs.Prelude.{ℕ, Bool, ◌&&◌, not, Option, is_some}
use Rattle.pipe_base.specs.declared.name.Ts.{Ts}

-- the link has a report
abbrev pub is_reported : (ℕ → Option Ts) → ℕ → Bool
is_reported reports link = is_some (reports link)

-- the live links without reports
abbrev pub unreported : (ℕ → Bool) → (ℕ → Option Ts) → ℕ → Bool
unreported live reports link = live link && not (is_reported reports link)
