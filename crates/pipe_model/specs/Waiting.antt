-- What waits on a link, and which control messages wait, the oldest first.
use Rattle.std.specs.Prelude.{ℕ, ◌==◌, ◌&&◌, not, if◌then◌else◌, Bool, true, false, List, [], ◌∷◌, ◌++◌, remove}
use Rattle.std.specs.List.{list_any}
use Rattle.pipe_base.specs.declared.control.Addressed.{Addressed}
use Rattle.pipe_base.specs.declared.name.LinkId.{LinkId}
use Rattle.pipe_base.specs.declared.packet.Packet.{Packet}
use Rattle.pipe_base.specs.declared.step.Outcome.{Outcome}
use Rattle.pipe_base.specs.declared.step.Outcome.TheVariants.{Ok}
use Rattle.pipe_model.specs.declared.event.Event.{Event}
use Rattle.pipe_model.specs.declared.event.Event.TheVariants.{Take, Lose, ControlTake, ControlLose, Cut}
use Rattle.pipe_model.specs.declared.record.Record.{Record}
use Rattle.pipe_model.specs.Acting.{is_idle}

abbrev pub is_ok : Outcome → Bool
is_ok Ok = true
is_ok _ = false

-- a take takes its item out, unless a copy stays or nothing happened
abbrev pub takes_out : Bool → Outcome → Bool
takes_out keep outcome = not keep && not (is_idle outcome)

-- what an event leaves of the packets that waited on a link
abbrev pub left_after : ℕ → Event → Outcome → List Packet → List Packet
left_after link (Take l place keep) outcome waiting = if (l.0 == link)
    && takes_out keep outcome then remove waiting place else waiting
left_after link (Lose l place) outcome waiting = if (l.0 == link)
    && is_ok outcome then remove waiting place else waiting
left_after link _ outcome waiting = waiting

-- the packets that were put on a link, in order
abbrev pub put_on : ℕ → List (LinkId × Packet) → List Packet
put_on link [] = []
put_on link (p ∷ ps) = if p.0.0 == link then p.1 ∷ put_on link ps else put_on link ps

abbrev pub is_cut_of : ℕ → Event → Bool
is_cut_of link (Cut l) = l.0 == link
is_cut_of link _ = false

-- some record is a cut of the link
abbrev pub is_cut : ℕ → List Record → Bool
is_cut link past = list_any (λ r. is_cut_of link r.event) past

-- What waits on a link: what was put on it, in order, without what was taken or lost. On a cut link nothing waits.
abbrev pub waiting_on : ℕ → List Record → List Packet
waiting_on link [] = []
waiting_on link (r ∷ past) =
    if is_cut link (r ∷ past) then [] else left_after link r.event r.step.outcome (waiting_on link past) ++ put_on link r.step.put

-- what an event leaves of the control messages that waited
abbrev pub control_left : Event → Outcome → List Addressed → List Addressed
control_left (ControlTake place keep) outcome waiting = if takes_out keep outcome then remove waiting place else waiting
control_left (ControlLose place) outcome waiting = if is_ok outcome then remove waiting place else waiting
control_left _ outcome waiting = waiting

-- The control messages that wait: what was put, in order, without what was taken or lost. No cut touches them.
abbrev pub waiting_control : List Record → List Addressed
waiting_control [] = []
waiting_control (r ∷ past) = control_left r.event r.step.outcome (waiting_control past) ++ r.step.control
