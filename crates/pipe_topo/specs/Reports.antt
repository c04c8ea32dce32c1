-- Reported values, as a list that has for each link its value, or none.
use Rattle.std.specs.Prelude.{ℕ, List, slice_index_or, Option, None}
use Rattle.pipe_base.specs.declared.name.Ts.{Ts}

-- the value that was reported for the link
abbrev pub report_of : List (Option Ts) → ℕ → Option Ts
report_of reports link = slice_index_or reports link None
