-- The clock of a host: the stamp of a send, and the next timestamp.
use Rattle.std.specs.Prelude.{ℕ, ◌+◌, max, List, [], ◌∷◌, Option, None, Some}
use Rattle.pipe_base.specs.declared.name.Ts.{Ts}
use Rattle.pipe_base.specs.declared.message.Entry.{Entry}
use Rattle.pipe_base.specs.declared.message.Service.{Service}

-- the stamp of a send: its reading, but not below the next timestamp
abbrev pub stamp_at : ℕ → ℕ → ℕ
stamp_at now next = max now next

-- above the stamp
abbrev pub after_stamp : Option Ts → ℕ
after_stamp None = 0
after_stamp (Some ts) = ts.0 + 1

-- above all that was logged
abbrev pub after_logged : List (Service × Entry) → ℕ
after_logged [] = 0
after_logged (e ∷ es) = max (e.1.key.ts.0 + 1) (after_logged es)

-- The next timestamp after a step, from that before: it never falls, is at least the reading of a tick, and above what was
-- stamped and logged.
abbrev pub next_after : ℕ → ℕ → Option Ts → List (Service × Entry) → ℕ
next_after before reading stamped logged = max before (max reading (max (after_stamp stamped) (after_logged logged)))
