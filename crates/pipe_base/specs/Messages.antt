-- Messages that a host holds: pairs of a key and a body, in the total order.
use Rattle.std.specs.Prelude.{◌≡◌, ◌⊎◌, ℕ, ◌<◌, ◌==◌, ◌&&◌, not, nat_lt, nat_le, Bool, List, [], ◌∷◌, map, filter, All}
use Rattle.std.specs.List.{list_any}
use Rattle.std.specs.Ordering.{nat_cmp, ordering_then}
use Rattle.std.specs.declared.cmp.Ordering.{Ordering}
use Rattle.std.specs.BTreeMap.{insert_entry}
use Rattle.pipe_base.specs.declared.message.Key.{Key}
use Rattle.pipe_base.specs.declared.message.Entry.{Entry}
use Rattle.pipe_base.specs.declared.message.Service.{Service}

abbrev pub Messages : Type 0
Messages = List (Key × List ℕ)

-- the total order: by timestamp, then by sender
abbrev pub key_cmp : Key → Key → Ordering
key_cmp a b = ordering_then (nat_cmp a.ts.0 b.ts.0) (nat_cmp a.src.0 b.src.0)

-- one key comes before another: by timestamp, then by sender
abbrev pub Before : Key → Key → Type 0
Before a b = (a.ts.0 < b.ts.0) ⊎ ((a.ts.0 ≡ b.ts.0) × (a.src.0 < b.src.0))

-- each message comes before all that follow it
abbrev pub IsInOrder : Messages → Type 0
IsInOrder [] = Unit {0}
IsInOrder (m ∷ ms) = All (λ n. Before m.0 n.0) ms × IsInOrder ms

-- the messages with one more, at its place in the order
abbrev pub with_message : Key → List ℕ → Messages → Messages
with_message key body messages = insert_entry key_cmp messages key body

abbrev pub same_key : Key → Key → Bool
same_key a b = (a.ts.0 == b.ts.0) && (a.src.0 == b.src.0)

-- a message with this key is among them
abbrev pub has_key : Key → Messages → Bool
has_key key messages = list_any (λ m. same_key m.0 key) messages

-- the messages but for one with this key
abbrev pub without_message : Key → Messages → Messages
without_message key messages = filter (λ m. not (same_key m.0 key)) messages

-- the messages but for those whose keys pass a test
abbrev pub without_keys : (Key → Bool) → Messages → Messages
without_keys test messages = filter (λ m. not (test m.0)) messages

-- the messages whose timestamp is at least a barrier
abbrev pub from_barrier : ℕ → Messages → Messages
from_barrier barrier messages = filter (λ m. nat_le barrier m.0.ts.0) messages

-- the messages whose timestamp is below a barrier
abbrev pub below_barrier : ℕ → Messages → Messages
below_barrier barrier messages = filter (λ m. nat_lt m.0.ts.0 barrier) messages

-- a message as a line of the log
abbrev pub entry_of : (Key × List ℕ) → Entry
entry_of m = record { key = m.0; body = m.1 }

-- messages as lines of the log of a service
abbrev pub logged_of : Service → Messages → List (Service × Entry)
logged_of service messages = map (λ m. (service, entry_of m)) messages

-- all that is logged is below a barrier
abbrev pub AreBelow : ℕ → List (Service × Entry) → Type 0
AreBelow barrier logged = All (λ e. e.1.key.ts.0 < barrier) logged
