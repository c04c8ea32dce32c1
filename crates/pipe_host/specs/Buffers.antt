-- The held messages of both services.
use Rattle.std.specs.Prelude.{◌≡◌, ℕ, ◌-◌, if◌then◌else◌, Bool, false, List, ◌++◌, length, drop, Option, None, Some}
use Rattle.std.specs.Option.{option_or}
use Rattle.pipe_base.specs.declared.control.Announced.{Announced}
use Rattle.pipe_base.specs.declared.message.Entry.{Entry}
use Rattle.pipe_base.specs.declared.message.Key.{Key}
use Rattle.pipe_base.specs.declared.message.Service.{Service}
use Rattle.pipe_base.specs.declared.message.Service.TheVariants.{BestEffort, Reliable}
use Rattle.pipe_base.specs.declared.packet.Packet.{Packet}
use Rattle.pipe_base.specs.declared.step.Fate.{Fate}
use Rattle.pipe_base.specs.declared.step.Fate.TheVariants.{Held}
use Rattle.pipe_base.specs.Messages.{Messages, has_key}
use Rattle.pipe_barrier.specs.declared.registers.Barriers.{Barriers}
use Rattle.pipe_model.specs.Fate.{fate_for, with_held}
use Rattle.pipe_model.specs.Got.{key_of, message_of}
use Rattle.pipe_model.specs.Recalls.{is_recall}
use Rattle.pipe_reorder.specs.Buffer.{Buffer, has_tombstone, left_by, newest_with, passed_by, with_failed, with_tombstone}
use Rattle.pipe_host.specs.declared.buffers.Buffers.{Buffers}

-- the buffer of a service
abbrev pub buffer_of : Service → Buffers → Buffer
buffer_of BestEffort buffers = buffers.best
buffer_of Reliable buffers = buffers.reliable

-- the fate of a message among those of a buffer
abbrev pub fate_by : Buffer → Option Packet → Option Fate
fate_by b message = fate_for b.barrier b.failed (has_tombstone b.tombstones) b.messages message

-- the fate of the message that a host gets, of whichever service
abbrev pub fate_among : Buffers → Option Packet → Option Fate
fate_among buffers got =
    option_or (fate_by buffers.best (message_of BestEffort got)) (fate_by buffers.reliable (message_of Reliable got))

-- the packet, where it is addressed to the host
abbrev pub where_mine : Bool → Packet → Option Packet
where_mine mine p = if mine then Some p else None

-- the tombstones with that of the message that a host gets told to take back
abbrev pub stones_with : ℕ → Option Packet → List Key → List Key
stones_with barrier None stones = stones
stones_with barrier (Some p) stones = if is_recall p.kind then with_tombstone barrier (key_of p) stones else stones

-- the newest one then
abbrev pub newest_after : ℕ → Option Packet → List Key → Option Key
newest_after barrier None stones = None
newest_after barrier (Some p) stones = if is_recall p.kind then newest_with barrier (key_of p) stones else None

-- the buffer with that tombstone
abbrev pub burying : Option Packet → Buffer → Buffer
burying got b =
    record b { tombstones = stones_with b.barrier got b.tombstones; newest = newest_after b.barrier got b.tombstones }

-- reliable messages alone are taken back
abbrev pub all_burying : Option Packet → Buffers → Buffers
all_burying got buffers = record { best = buffers.best; reliable = burying got buffers.reliable }

-- the buffer of a service, and in it the message of a packet that has the fate held
abbrev pub joined : Service → Option Fate → Packet → Buffer → Buffer
joined service fate p buffer = record buffer { messages = with_held fate (message_of service (Some p)) buffer.messages }

abbrev pub all_joined : Option Fate → Packet → Buffers → Buffers
all_joined fate p buffers =
    record { best = joined BestEffort fate p buffers.best; reliable = joined Reliable fate p buffers.reliable }

-- the buffers with these failed hosts after those that are noted: reliable messages alone are void by them
abbrev pub all_noting : List Announced → Buffers → Buffers
all_noting failed buffers = record { best = buffers.best; reliable = with_failed failed buffers.reliable }

-- the last so many of a list
abbrev pub last_of : {A : Type 0} → ℕ → List A → List A
last_of count list = drop (length list - count) list

-- a message with the fate held was not among these
abbrev pub IsNew : Option Fate → Option Packet → Messages → Type 0
IsNew (Some Held) (Some p) messages = has_key (key_of p) messages ≡ false
IsNew _ _ messages = Unit {0}

abbrev pub IsFresh : Option Fate → Packet → Buffers → Type 0
IsFresh fate p buffers = (service : Service)
    → IsNew fate (message_of service (Some p)) (buffer_of service buffers).messages

-- what two barriers let out, best effort first
abbrev pub logged_by : Barriers → Buffers → List (Service × Entry)
logged_by b buffers = passed_by b.be.0 buffers.best ++ passed_by b.commit.0 buffers.reliable

-- what they leave
abbrev pub all_left : Barriers → Buffers → Buffers
all_left b buffers = record { best = left_by b.be.0 buffers.best; reliable = left_by b.commit.0 buffers.reliable }
