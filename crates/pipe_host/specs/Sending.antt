-- What a host works out of a send, and what a record does to its sender.
use Rattle.std.specs.Prelude.{◌≡◌, ℕ, ◌+◌, ◌≤◌, nat_le, Bool, true, false, List, [], ◌∷◌, ◌++◌, length, Option, None, Some}
use Rattle.pipe_base.specs.declared.message.Service.{Service}
use Rattle.pipe_base.specs.declared.message.Service.TheVariants.{BestEffort, Reliable}
use Rattle.pipe_base.specs.declared.name.HostId.{HostId}
use Rattle.pipe_base.specs.declared.name.Ts.{Ts}
use Rattle.pipe_base.specs.declared.step.Outcome.{Outcome}
use Rattle.pipe_base.specs.Clock.{stamp_at}
use Rattle.pipe_base.specs.Limits.{most_unsettled}
use Rattle.pipe_base.specs.Scattering.{SenderCall, Acked, RecallAcked}
use Rattle.pipe_model.specs.declared.event.Event.{Event}
use Rattle.pipe_model.specs.declared.event.Event.TheVariants.{Send}
use Rattle.pipe_model.specs.OwnOutcome.{first_failed, send_outcome, where_ok}
use Rattle.pipe_relsend.specs.Pending.{Pending, started}
use Rattle.pipe_relsend.specs.Sending.{first_or}
use Rattle.pipe_host.specs.declared.host.Host.{Host}
use Rattle.pipe_host.specs.declared.records.Heard.{Heard}
use Rattle.pipe_host.specs.declared.records.Heard.TheVariants.{Ack, RecallAck}
use Rattle.pipe_host.specs.declared.sending.Stamp.{Stamp}

-- a reliable send finds the window full
abbrev pub is_full : Service → List Pending → Bool
is_full BestEffort pending = false
is_full Reliable pending = nat_le most_unsettled (length pending)

-- the promise after a send with this stamp: a reliable one is not settled
abbrev pub promise_with : Service → ℕ → List Pending → ℕ
promise_with BestEffort stamp pending = first_or (stamp + 1) pending
promise_with Reliable stamp pending = first_or stamp pending

-- the scatterings with one that is begun, where the send is reliable
abbrev pub begun_by : Service → Ts → List (HostId × List ℕ) → List Pending → List Pending
begun_by BestEffort ts dests pending = pending
begun_by Reliable ts dests pending = pending ++ started ts dests ∷ []

-- the send is stamped, and this is the promise after it
pub record IsStamped (k : Host) (service : Service) (now : Ts) (dests : List (HostId
    × List ℕ)) (s : Stamp) : Type 0 where
  pub none_failed : first_failed k.held.reliable.failed dests ≡ None
  pub room : is_full service k.sender ≡ false
  pub stamp_is : s.ts.0 ≡ stamp_at now.0 k.clock.next.0
  pub within : s.ts.0 ≤ k.clock.top.0
  pub promise_is : s.promise.0 ≡ promise_with service s.ts.0 k.sender

-- the send is refused with this outcome
pub record IsRefused (k : Host) (service : Service) (now : Ts) (dests : List (HostId
    × List ℕ)) (outcome : Outcome) : Type 0 where
  pub outcome_is : outcome ≡ send_outcome (first_failed k.held.reliable.failed dests) (is_full service k.sender) k.clock.top.0 now.0 k.clock.next.0
  pub unstamped : (stamp : ℕ) → where_ok outcome stamp ≡ None

-- what the sender is told by an answer that a record brings
abbrev pub with_heard : Option Heard → List SenderCall → List SenderCall
with_heard None calls = calls
with_heard (Some (Ack ts host)) calls = Acked ts.0 host.0 ∷ calls
with_heard (Some (RecallAck ts host)) calls = RecallAcked ts.0 host.0 ∷ calls

-- a reliable send that was stamped
abbrev pub has_begun : Event → Option Ts → Bool
has_begun (Send host Reliable now dests) (Some ts) = true
has_begun _ _ = false
