-- The sender of reliable scatterings along a host's own records.
use Rattle.std.specs.Prelude.{ℕ, if◌then◌else◌, Bool, true, false, List, [], ◌∷◌, Option, None, Some}
use Rattle.pipe_base.specs.declared.control.Announced.{Announced}
use Rattle.pipe_base.specs.declared.message.Service.TheVariants.{Reliable}
use Rattle.pipe_base.specs.declared.name.Ts.{Ts}
use Rattle.pipe_base.specs.declared.step.Outcome.{Outcome}
use Rattle.pipe_base.specs.declared.step.Outcome.TheVariants.{Ok, DestFailed, Window, ClockEnd, Crashed, NoItem, Ignored}
use Rattle.pipe_base.specs.declared.step.Step.{Step}
use Rattle.pipe_base.specs.declared.packet.Packet.{Packet}
use Rattle.pipe_base.specs.declared.packet.PacketKind.{PacketKind}
use Rattle.pipe_base.specs.declared.packet.PacketKind.TheVariants.{Ack, RecallAck}
use Rattle.pipe_graph.specs.Graph.{Graph}
use Rattle.pipe_base.specs.Scattering.{SenderCall, Began, Acked, Noted, RecallAcked}
use Rattle.pipe_model.specs.declared.event.Event.{Event}
use Rattle.pipe_model.specs.declared.event.Event.TheVariants.{Send}
use Rattle.pipe_model.specs.declared.record.Record.{Record}
use Rattle.pipe_model.specs.Got.{gets}
use Rattle.pipe_model.specs.Moments.{noted_hosts}

-- what was stamped in a step with this outcome, where that is ok
abbrev pub where_accepted : Outcome → Option Ts → Option Ts
where_accepted Ok stamp = stamp
where_accepted (DestFailed host) stamp = None
where_accepted (Window count) stamp = None
where_accepted (ClockEnd next) stamp = None
where_accepted Crashed stamp = None
where_accepted NoItem stamp = None
where_accepted Ignored stamp = None

-- the stamp of a step that was not refused
abbrev pub accepted_stamp : Step → Option Ts
accepted_stamp step = where_accepted step.outcome step.stamped

-- a reliable send that was stamped begins a scattering with this stamp and its receivers
abbrev pub with_begun : Event → Option Ts → List SenderCall → List SenderCall
with_begun (Send host Reliable now dests) (Some ts) past = Began (record { ts = ts; dests = dests }) ∷ past
with_begun _ _ past = past

abbrev pub is_ack : PacketKind → Bool
is_ack Ack = true
is_ack _ = false

abbrev pub is_recall_ack : PacketKind → Bool
is_recall_ack RecallAck = true
is_recall_ack _ = false

-- an answer that the host gets is its sender's, for the scattering with its timestamp
abbrev pub with_answer : Option Packet → List SenderCall → List SenderCall
with_answer None past = past
with_answer (Some p) past =
    if is_ack p.kind then Acked p.ts.0 p.src.0 ∷ past else if is_recall_ack p.kind then RecallAcked p.ts.0 p.src.0 ∷ past else past

-- where a record notes failed hosts, the sender is told all that are noted then
abbrev pub with_noted : List Announced → List Announced → List SenderCall → List SenderCall
with_noted noted [] past = past
with_noted noted (_ ∷ _) past = Noted noted ∷ past

-- What happened at the host's sender, from its own records.
abbrev pub sender_calls : Graph → ℕ → List Record → List SenderCall
sender_calls graph node [] = []
sender_calls graph node (r ∷ own) =
    with_noted (noted_hosts (r ∷ own)) r.step.noted (with_answer (gets graph node own r) (with_begun r.event (accepted_stamp r.step) (sender_calls graph node own)))
