-- What becomes of a message that reaches its receiver.
use Rattle.std.specs.Prelude.{ℕ, nat_lt, nat_le, if◌then◌else◌, Bool, true, false, Option, None, Some}
use Rattle.pipe_base.specs.declared.message.Key.{Key}
use Rattle.pipe_base.specs.declared.name.Ts.{Ts}
use Rattle.pipe_base.specs.declared.step.Fate.{Fate}
use Rattle.pipe_base.specs.declared.step.Fate.TheVariants.{Held, Repeat, Late, Discarded, Recalled}
use Rattle.pipe_base.specs.Messages.{Messages, has_key}

-- recalled where its sender took it back, a repeat where a message with its key is held, held otherwise
abbrev pub fate_among : Bool → Messages → Key → Fate
fate_among recalled held key = if recalled then Recalled else if has_key key held then Repeat else Held

-- discarded where its sender is noted as failed from a time on that is not above it
abbrev pub fate_from : Option Ts → Bool → Messages → Key → Fate
fate_from None recalled held key = fate_among recalled held key
fate_from (Some time) recalled held key =
    if nat_le time.0 key.ts.0 then Discarded time else fate_among recalled held key

-- late where the barrier has passed it; then what the time of its sender makes of it, where there is one
abbrev pub fate_of : ℕ → Option Ts → Bool → Messages → Key → Fate
fate_of barrier failed recalled held key =
    if nat_lt key.ts.0 barrier then Late (record { 0 = barrier }) else fate_from failed recalled held key

-- with this fate the receiver holds the message, since now or before
abbrev pub is_holding : Option Fate → Bool
is_holding (Some Held) = true
is_holding (Some Repeat) = true
is_holding _ = false
