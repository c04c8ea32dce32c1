-- What a host keeps, and what it stands for.
use Rattle.std.specs.Prelude.{◌≡◌, ℕ, ◌<◌, Bool, true, List, [], ◌∷◌, length, Option, None}
use Rattle.pipe_base.specs.declared.control.Announced.{Announced}
use Rattle.pipe_base.specs.declared.message.Key.{Key}
use Rattle.pipe_base.specs.declared.message.Service.{Service}
use Rattle.pipe_base.specs.declared.message.Service.TheVariants.{BestEffort, Reliable}
use Rattle.pipe_base.specs.declared.packet.Plane.TheVariants.{Commit}
use Rattle.pipe_base.specs.Failed.{without_void}
use Rattle.pipe_graph.specs.Graph.{Graph, is_host}
use Rattle.pipe_base.specs.Messages.{Messages, from_barrier, without_keys}
use Rattle.pipe_links.specs.declared.links.Links.{Links}
use Rattle.pipe_links.specs.Links as links
use Rattle.pipe_model.specs.declared.event.Event.{Event}
use Rattle.pipe_model.specs.declared.event.Event.TheVariants.{Send, Take}
use Rattle.pipe_model.specs.declared.record.Record.{Record}
use Rattle.pipe_model.specs.Clock.{next}
use Rattle.pipe_model.specs.Fate.{failed_for, held, plane_of, recalled_for}
use Rattle.pipe_model.specs.Got.{gets}
use Rattle.pipe_model.specs.Moments.{barrier_at}
use Rattle.pipe_model.specs.Run.{IsNodeStep}
use Rattle.pipe_model.specs.Sender.{sender_calls, with_begun}
use Rattle.pipe_relsend.specs.Sending as sending
use Rattle.pipe_reorder.specs.Buffer.{Buffer, keys_from}
use Rattle.pipe_host.specs.declared.buffers.Buffers.{Buffers}
use Rattle.pipe_host.specs.declared.host.Host.{Host}
use Rattle.pipe_host.specs.Buffers.{newest_after, stones_with}

-- the messages of these that are held: from a barrier on, without those that are void and those that were taken back
abbrev pub still_held : ℕ → List Announced → (Key → Bool) → Messages → Messages
still_held barrier failed recalled messages =
    from_barrier barrier (without_keys recalled (without_void failed messages))

-- The tombstones of a host: the keys of messages that were taken back. A key gets one that the barrier before the record has
-- not passed, and keeps it until the barrier passes it.
abbrev pub stones : Graph → ℕ → List Record → List Key
stones graph node [] = []
stones graph node (r ∷ own) =
    keys_from (barrier_at Commit graph node (r ∷ own)) (stones_with (barrier_at Commit graph node own) (gets graph node own r) (stones graph node own))

-- reliable messages alone are taken back
abbrev pub stones_for : Service → Graph → ℕ → List Record → List Key
stones_for BestEffort graph node own = []
stones_for Reliable graph node own = stones graph node own

-- the tombstones while a record is worked out, and the newest one if the record brings it
abbrev pub stones_during : Service → Graph → ℕ → List Record → Record → List Key
stones_during BestEffort graph node own r = []
stones_during Reliable graph node own r =
    stones_with (barrier_at Commit graph node own) (gets graph node own r) (stones graph node own)

abbrev pub newest_during : Service → Graph → ℕ → List Record → Record → Option Key
newest_during BestEffort graph node own r = None
newest_during Reliable graph node own r =
    newest_after (barrier_at Commit graph node own) (gets graph node own r) (stones graph node own)

-- the buffer of a service after a host's own records
abbrev pub buffer_for : Service → Graph → ℕ → List Record → Buffer
buffer_for service graph node own = record {
  service = service;
  barrier = barrier_at (plane_of service) graph node own;
  failed = failed_for service own;
  tombstones = stones_for service graph node own;
  newest = None;
  messages = still_held (barrier_at (plane_of service) graph node own) (failed_for service own) (recalled_for service graph node own) (held service graph node own);
}

abbrev pub buffers_for : Graph → ℕ → List Record → Buffers
buffers_for graph node own =
    record { best = buffer_for BestEffort graph node own; reliable = buffer_for Reliable graph node own }

-- The same while a record is worked out: the message that it brings is held already, the hosts that it notes are noted, and the
-- message that it takes back has its tombstone. What is void or taken back by that is held yet.
abbrev pub buffer_with : Service → Graph → ℕ → List Record → Record → Buffer
buffer_with service graph node own r = record {
  service = service;
  barrier = barrier_at (plane_of service) graph node own;
  failed = failed_for service (r ∷ own);
  tombstones = stones_during service graph node own r;
  newest = newest_during service graph node own r;
  messages = still_held (barrier_at (plane_of service) graph node own) (failed_for service own) (recalled_for service graph node own) (held service graph node (r ∷ own));
}

abbrev pub buffers_with : Graph → ℕ → List Record → Record → Buffers
buffers_with graph node own r =
    record { best = buffer_with BestEffort graph node own r; reliable = buffer_with Reliable graph node own r }

-- What is kept is what the rules say after the host's own records.
pub record Stands (graph : Graph) (node : ℕ) (own : List Record) (k : Host) : Type 0 where
  pub host : is_host graph node ≡ true
  pub links_are : links.Stands graph node own k.links
  pub next_is : k.clock.next.0 ≡ next graph node own
  pub top_is : k.clock.top.0 ≡ graph.top
  pub held_are : k.held ≡ buffers_for graph node own
  pub sender_is : sending.Stands (sender_calls graph node own) k.sender

-- a send names a receiver
abbrev pub HasReceiver : Event → Type 0
HasReceiver (Send host service now dests) = 0 < length dests
HasReceiver _ = Unit {0}

-- while a packet is taken, no ways are set aside
abbrev pub StandsTaking : Event → Graph → ℕ → List Record → Links → Type 0
StandsTaking (Take link place keep) graph node own k = links.Stands graph node own k
StandsTaking _ graph node own k = Unit {0}

-- The same while a record is worked out: what it brings and notes is in the buffers, the ways after it are made, and the
-- scattering that it sends is begun.
pub record StandsWith (graph : Graph) (node : ℕ) (own : List Record) (r : Record) (k : Host) : Type 0 where
  pub host : is_host graph node ≡ true
  pub links_are : links.StandsWith graph node own r k.links
  pub taking : StandsTaking r.event graph node own k.links
  pub next_is : k.clock.next.0 ≡ next graph node own
  pub top_is : k.clock.top.0 ≡ graph.top
  pub held_are : k.held ≡ buffers_with graph node own r
  pub sender_is : sending.Stands (with_begun r.event r.step.stamped (sender_calls graph node own)) k.sender
  pub receiver : HasReceiver r.event

-- The step is what the rules say of the record, and afterwards the host stands for its records with that one.
pub record Does (graph : Graph) (node : ℕ) (own : List Record) (r : Record) (new : Host) : Type 0 where
  pub rules : IsNodeStep graph node own r
  pub stands : Stands graph node (r ∷ own) new

-- The step is what the rules say of the record, and the host is ready to follow it.
pub record Works (graph : Graph) (node : ℕ) (own : List Record) (r : Record) (new : Host) : Type 0 where
  pub rules : IsNodeStep graph node own r
  pub stands : StandsWith graph node own r new
