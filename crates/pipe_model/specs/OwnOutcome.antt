-- What becomes of an event at the node that acts in it, and the stamp of a send.
use Rattle.std.specs.Prelude.{ℕ, nat_le, if◌then◌else◌, Bool, false, List, [], ◌∷◌, length, Option, None, Some}
use Rattle.pipe_base.specs.declared.control.Announced.{Announced}
use Rattle.pipe_base.specs.declared.message.Service.{Service}
use Rattle.pipe_base.specs.declared.message.Service.TheVariants.{BestEffort, Reliable}
use Rattle.pipe_base.specs.declared.name.HostId.{HostId}
use Rattle.pipe_base.specs.declared.name.Ts.{Ts}
use Rattle.pipe_base.specs.declared.step.Outcome.{Outcome}
use Rattle.pipe_base.specs.declared.step.Outcome.TheVariants.{Ok, ClockEnd, DestFailed, Ignored, Window}
use Rattle.pipe_base.specs.Clock.{stamp_at}
use Rattle.pipe_base.specs.Failed.{is_announced}
use Rattle.pipe_graph.specs.Graph.{Graph}
use Rattle.pipe_base.specs.Limits.{most_unsettled}
use Rattle.pipe_base.specs.Moment.{is_up}
use Rattle.pipe_base.specs.Scattering.{Scattering}
use Rattle.pipe_base.specs.Settled.{unsettled}
use Rattle.pipe_model.specs.declared.event.Event.{Event}
use Rattle.pipe_model.specs.declared.event.Event.TheVariants.{Send, Take}
use Rattle.pipe_model.specs.declared.record.Record.{Record}
use Rattle.pipe_model.specs.Clock.{next}
use Rattle.pipe_model.specs.Moments.{moments_of, noted_hosts}
use Rattle.pipe_model.specs.Sender.{sender_calls}

-- the first of the receivers that is among the hosts noted as failed
abbrev pub first_failed : List Announced → List (HostId × List ℕ) → Option HostId
first_failed noted [] = None
first_failed noted (d ∷ dests) = if is_announced d.0.0 noted then Some d.0 else first_failed noted dests

-- the sender has as many reliable scatterings that are not settled as it may, and the send would be one more
abbrev pub is_window_full : Service → List Scattering → Bool
is_window_full BestEffort pending = false
is_window_full Reliable pending = nat_le most_unsettled (length pending)

-- a send past the end of the clock is refused
abbrev pub clock_outcome : ℕ → ℕ → ℕ → Outcome
clock_outcome top now next = if nat_le (stamp_at now next) top then Ok else ClockEnd (record { 0 = next })

-- The first refusal of a send that holds: a failed receiver, a full window, the end of the clock. Ok where there is none.
abbrev pub send_outcome : Option HostId → Bool → ℕ → ℕ → ℕ → Outcome
send_outcome (Some failed) full top now next = DestFailed failed
send_outcome None full top now next = if full then Window most_unsettled else clock_outcome top now next

-- what the acting node answers, by its own records: the refusals of a send in their order, Ignored for a take on a link that
-- is not up, Ok for all else
abbrev pub own_outcome : Graph → ℕ → List Record → Event → Outcome
own_outcome graph node own (Send host service now dests) =
    send_outcome (first_failed (noted_hosts own) dests) (is_window_full service (unsettled (sender_calls graph node own))) graph.top now.0 (next graph node own)
own_outcome graph node own (Take link place keep) = if is_up (moments_of graph node own) link.0 then Ok else Ignored
own_outcome graph node own _ = Ok

-- a stamp where the outcome is Ok
abbrev pub where_ok : Outcome → ℕ → Option Ts
where_ok Ok stamp = Some (record { 0 = stamp })
where_ok _ stamp = None

-- what a record stamps: a send that is not refused
abbrev pub stamped : Graph → ℕ → List Record → Event → Option Ts
stamped graph node own (Send host service now dests) =
    where_ok (own_outcome graph node own (Send host service now dests)) (stamp_at now.0 (next graph node own))
stamped graph node own _ = None
