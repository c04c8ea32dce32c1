-- What a buffer of held messages is seen as.
use Rattle.std.specs.Prelude.{◌≡◌, ℕ, ◌&&◌, not, nat_le, if◌then◌else◌, Bool, List, [], ◌++◌, filter, Option, None, Some}
use Rattle.std.specs.BTreeMap.{is_at}
use Rattle.std.specs.BTreeSet.{insert_key}
use Rattle.std.specs.List.{list_any}
use Rattle.std.specs.Set.{remove_key}
use Rattle.pipe_base.specs.declared.control.Announced.{Announced}
use Rattle.pipe_base.specs.declared.message.Entry.{Entry}
use Rattle.pipe_base.specs.declared.message.Message.{Message}
use Rattle.pipe_base.specs.declared.message.Service.{Service}
use Rattle.pipe_base.specs.declared.name.Ts.{Ts}
use Rattle.pipe_base.specs.declared.message.Key.{Key}
use Rattle.pipe_base.specs.declared.step.Fate.{Fate}
use Rattle.pipe_base.specs.declared.step.Fate.TheVariants.{Held}
use Rattle.pipe_base.specs.Failed.{past_known, without_void}
use Rattle.pipe_base.specs.Messages.{Messages, key_cmp, same_key, with_message, without_message, without_keys, from_barrier, below_barrier, logged_of}

-- The messages of one service that are held, the barrier that was passed last, the failed hosts whose messages are void, and the
-- tombstones: the keys of messages that were taken back. The newest tombstone is one whose message may still be held.
pub record Buffer : Type 0 where
  pub service : Service
  pub barrier : ℕ
  pub failed : List Announced
  pub tombstones : List Key
  pub newest : Option Key
  pub messages : Messages

abbrev pub buffer_of : Service → Ts → List Announced → List Key → Option Key → Messages → Buffer
buffer_of service barrier failed tombstones newest messages =
    record { service = service; barrier = barrier.0; failed = failed; tombstones = tombstones; newest = newest; messages = messages }

-- the key has a tombstone
abbrev pub has_tombstone : List Key → Key → Bool
has_tombstone tombstones key = list_any (λ k. same_key k key) tombstones

-- where a message stands in the total order
abbrev pub message_key : Message → Key
message_key m = record { ts = m.ts; src = m.src }

abbrev pub empty_buffer : Service → Buffer
empty_buffer service =
    record { service = service; barrier = 0; failed = []; tombstones = []; newest = None; messages = [] }

-- the buffer with one message more, at its place in the order
abbrev pub buffer_with : Key → List ℕ → Buffer → Buffer
buffer_with key body b = record b { messages = with_message key body b.messages }

-- the buffer but for the message with this key
abbrev pub buffer_without : Key → Buffer → Buffer
buffer_without key b = record b { messages = without_message key b.messages }

-- of these messages, what a barrier lets out, in order: those below it that are not void and have no tombstone
abbrev pub let_out : Service → List Announced → List Key → ℕ → Messages → List (Service × Entry)
let_out service failed tombstones barrier messages =
    logged_of service (without_keys (has_tombstone tombstones) (without_void failed (below_barrier barrier messages)))

-- what a barrier lets out of the buffer
abbrev pub passed_by : ℕ → Buffer → List (Service × Entry)
passed_by barrier b = let_out b.service b.failed b.tombstones barrier b.messages

-- the keys whose timestamp is at least a barrier
abbrev pub keys_from : ℕ → List Key → List Key
keys_from barrier keys = filter (λ k. nat_le barrier k.ts.0) keys

-- what it leaves
abbrev pub left_by : ℕ → Buffer → Buffer
left_by barrier b =
    record b { barrier = barrier; tombstones = keys_from barrier b.tombstones; messages = from_barrier barrier b.messages }

-- the buffer without the messages that are void
abbrev pub with_no_void : Buffer → Buffer
with_no_void b = record b { messages = without_void b.failed b.messages }

-- a key that the barrier has not passed gets a tombstone, where it has none
abbrev pub is_buried_by : ℕ → List Key → Key → Bool
is_buried_by barrier tombstones key = nat_le barrier key.ts.0 && not (has_tombstone tombstones key)

-- the tombstones with that of this key
abbrev pub with_tombstone : ℕ → Key → List Key → List Key
with_tombstone barrier key tombstones =
    if is_buried_by barrier tombstones key then insert_key key_cmp tombstones key else tombstones

-- the newest tombstone then: that of this key, where it is new
abbrev pub newest_with : ℕ → Key → List Key → Option Key
newest_with barrier key tombstones = if is_buried_by barrier tombstones key then Some key else None

-- the buffer with the tombstone of this key
abbrev pub with_buried : Key → Buffer → Buffer
with_buried key b =
    record b { tombstones = with_tombstone b.barrier key b.tombstones; newest = newest_with b.barrier key b.tombstones }

-- the tombstones but for the newest one
abbrev pub but_newest : Option Key → List Key → List Key
but_newest None tombstones = tombstones
but_newest (Some key) tombstones = remove_key (is_at (key_cmp key)) tombstones

-- the buffer without its newest tombstone, where this one was the newest before
abbrev pub with_unburied : Option Key → Buffer → Buffer
with_unburied before b = record b { tombstones = but_newest b.newest b.tombstones; newest = before }

-- the messages but for that of the newest tombstone
abbrev pub without_newest : Option Key → Messages → Messages
without_newest None messages = messages
without_newest (Some key) messages = without_message key messages

-- the buffer without the message of its newest tombstone, which is no newest one any more
abbrev pub with_no_buried : Buffer → Buffer
with_no_buried b = record b { newest = None; messages = without_newest b.newest b.messages }

-- the buffer with the message of this key taken back
abbrev pub with_recalled : Key → Buffer → Buffer
with_recalled key b =
    record b { tombstones = with_tombstone b.barrier key b.tombstones; newest = None; messages = without_message key b.messages }

-- the buffer with these failed hosts after those that it has
abbrev pub with_failed : List Announced → Buffer → Buffer
with_failed failed b = record b { failed = b.failed ++ failed }

-- the same, with those of an announcement past the number that it has
abbrev pub adopted : List Announced → Buffer → Buffer
adopted list b = with_failed (past_known b.failed list) b

-- a message with the fate held joins the others
abbrev pub with_placed : Fate → Key → List ℕ → Buffer → Buffer
with_placed Held key body b = buffer_with key body b
with_placed _ key body b = b

-- the log grew by some first ones of the entries
abbrev pub AppendsSome : List (Service × Entry) → List (Service × Entry) → List (Service × Entry) → Type 0
AppendsSome old entries new = (done : List (Service × Entry)) × (rest : List (Service × Entry)) × (new ≡ old ++ done)
    × (entries ≡ done ++ rest)
