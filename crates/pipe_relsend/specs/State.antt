-- The states of a reliable scattering, and what an answer or noted failed hosts make of it.
use Rattle.std.specs.Prelude.{◌≡◌, not, if◌then◌else◌, Bool, true, false, List, ℕ, Option, None, Some}
use Rattle.pipe_base.specs.declared.control.Announced.{Announced}
use Rattle.pipe_relsend.specs.declared.scattering.AckStep.{AckStep}
use Rattle.pipe_relsend.specs.declared.scattering.AckStep.TheVariants as acking
use Rattle.pipe_relsend.specs.declared.scattering.FailStep.{FailStep}
use Rattle.pipe_relsend.specs.declared.scattering.FailStep.TheVariants as failing
use Rattle.pipe_relsend.specs.declared.scattering.RecallStep.{RecallStep}
use Rattle.pipe_relsend.specs.declared.scattering.RecallStep.TheVariants as recalling
use Rattle.pipe_relsend.specs.declared.state.Answer.{Answer}
use Rattle.pipe_relsend.specs.declared.state.Answer.TheVariants.{Ack, RecallAck}
use Rattle.pipe_relsend.specs.declared.state.State.{State}
use Rattle.pipe_relsend.specs.declared.state.State.TheVariants.{Preparing, Recalling}
use Rattle.pipe_relsend.specs.Pending.{Pending, has_lost, is_open, taken_back, with_failed, with_mark}

-- the scattering of a state
abbrev pub pending_of : State → Pending
pending_of (Preparing p) = record p { recalled = false }
pending_of (Recalling p) = record p { recalled = true }

-- A step by an acknowledgement of this host: prepared exactly where no receiver is left without a mark.
abbrev pub IsAckStep : Pending → ℕ → AckStep → Type 0
IsAckStep old host (acking.Still new) = (is_open (with_mark host old) ≡ true) × (new ≡ with_mark host old)
IsAckStep old host (acking.Ready new) = (is_open (with_mark host old) ≡ false) × (new.ts ≡ old.ts)
    × (new.dests ≡ old.dests)

-- A step as failed hosts are noted: recalled exactly where one of them is a receiver without a mark, and gone where no other
-- receiver is left.
abbrev pub IsFailStep : Pending → List Announced → FailStep → Type 0
IsFailStep old failed (failing.Still new) = (has_lost failed old ≡ false) × (new ≡ old)
IsFailStep old failed (failing.Recall new) = (has_lost failed old ≡ true) × (is_open (taken_back failed old) ≡ true)
    × (new ≡ taken_back failed old)
IsFailStep old failed (failing.Gone new) = (has_lost failed old ≡ true) × (is_open (taken_back failed old) ≡ false)
    × (new.ts ≡ old.ts) × (new.dests ≡ old.dests)

-- A step of a recalled scattering to one with more marks: gone exactly where no receiver is left without one.
abbrev pub IsRecallStep : Pending → Pending → RecallStep → Type 0
IsRecallStep old more (recalling.Still new) = (is_open more ≡ true) × (new ≡ more)
IsRecallStep old more (recalling.Gone new) = (is_open more ≡ false) × (new.ts ≡ old.ts) × (new.dests ≡ old.dests)

-- an answer counts for a scattering that waits for its kind
abbrev pub counts : Answer → Pending → Bool
counts Ack p = not p.recalled
counts RecallAck p = p.recalled

-- the scattering, where some receiver is not marked
abbrev pub where_open : Pending → Option Pending
where_open p = if is_open p then Some p else None

-- what an answer of this host leaves of the scattering
abbrev pub after_answer : Answer → ℕ → Pending → Option Pending
after_answer answer host p = if counts answer p then where_open (with_mark host p) else Some p

-- what noted failed hosts leave of a scattering that is not recalled
abbrev pub after_loss : List Announced → Pending → Option Pending
after_loss failed p = if has_lost failed p then where_open (taken_back failed p) else Some p

-- what noted failed hosts leave of the scattering
abbrev pub after_note : List Announced → Pending → Option Pending
after_note failed p = if p.recalled then where_open (with_failed failed p) else after_loss failed p
