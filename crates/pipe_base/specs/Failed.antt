-- Hosts that were announced as failed, each with the time from which on its messages are void.
use Rattle.std.specs.Prelude.{ℕ, ◌==◌, not, nat_le, if◌then◌else◌, Bool, false, List, [], ◌∷◌, length, drop, filter, Option, None, Some}
use Rattle.std.specs.List.{list_any}
use Rattle.pipe_base.specs.declared.control.Announced.{Announced}
use Rattle.pipe_base.specs.declared.message.Key.{Key}
use Rattle.pipe_base.specs.declared.name.Ts.{Ts}
use Rattle.pipe_base.specs.Messages.{Messages}

-- the host is among them
abbrev pub is_announced : ℕ → List Announced → Bool
is_announced host failed = list_any (λ a. a.host.0 == host) failed

-- the time of a host: that of its first entry, as the first one stands
abbrev pub time_of : ℕ → List Announced → Option Ts
time_of host [] = None
time_of host (a ∷ later) = if a.host.0 == host then Some a.time else time_of host later

-- there is a time, and the timestamp is not below it
abbrev pub is_from : Option Ts → Ts → Bool
is_from None ts = false
is_from (Some time) ts = nat_le time.0 ts.0

-- a message is void from the time of its sender on
abbrev pub is_void : List Announced → Key → Bool
is_void failed key = is_from (time_of key.src.0 failed) key.ts

-- the messages that are not void
abbrev pub without_void : List Announced → Messages → Messages
without_void failed messages = filter (λ m. not (is_void failed m.0)) messages

-- What is new in a list to one who knows some first ones: the items past their number.
abbrev pub past_known : {A : Type 0} → List A → List A → List A
past_known known list = drop (length known) list
