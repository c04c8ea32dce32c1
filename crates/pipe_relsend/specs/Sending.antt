-- What a sender keeps, and what it stands for.
use Rattle.std.specs.Prelude.{◌≡◌, ℕ, ◌==◌, ◌<◌, ◌≢◌, ◌||◌, if◌then◌else◌, Bool, true, List, [], ◌∷◌, map, length, slice_index_or, Option, None, Some}
use Rattle.pipe_base.specs.declared.control.Announced.{Announced}
use Rattle.pipe_base.specs.declared.name.HostId.{HostId}
use Rattle.pipe_base.specs.Failed.{is_announced}
use Rattle.pipe_base.specs.Scattering.{Scattering, SenderCall, AreRising, begun}
use Rattle.pipe_base.specs.Settled.{is_acked, is_noted, is_recall_acked, is_recalled, unsettled}
use Rattle.pipe_relsend.specs.declared.state.Answer.{Answer}
use Rattle.pipe_relsend.specs.declared.state.Answer.TheVariants.{Ack, RecallAck}
use Rattle.pipe_relsend.specs.Pending.{Pending}
use Rattle.pipe_relsend.specs.State.{after_answer, after_note}

-- a scattering before others, where it is left
abbrev pub before : Option Pending → List Pending → List Pending
before None ps = ps
before (Some p) ps = p ∷ ps

-- an answer concerns the scattering with its timestamp, which goes where it is settled by that
abbrev pub answered : Answer → ℕ → ℕ → List Pending → List Pending
answered answer ts host [] = []
answered answer ts host (p ∷ ps) =
    if p.ts.0 == ts then before (after_answer answer host p) ps else p ∷ answered answer ts host ps

-- after an acknowledgement
abbrev pub after_ack : ℕ → ℕ → List Pending → List Pending
after_ack ts host ps = answered Ack ts host ps

-- after a host told that it took a scattering back
abbrev pub after_recall_ack : ℕ → ℕ → List Pending → List Pending
after_recall_ack ts host ps = answered RecallAck ts host ps

-- noted failed hosts concern each scattering
abbrev pub noted : List Announced → List Pending → List Pending
noted failed [] = []
noted failed (p ∷ ps) = before (after_note failed p) (noted failed ps)

-- whoever was noted before is noted now
abbrev pub KnowsAll : List Announced → List SenderCall → Type 0
KnowsAll failed calls = (host : ℕ) → is_noted calls host ≡ true → is_announced host failed ≡ true

-- the first place of a scattering with this timestamp
pub record IsPlaceOf (ts : ℕ) (ps : List Pending) (at : ℕ) : Type 0 where
  pub within : at < length ps
  pub here : (d : Pending) → (slice_index_or ps at d).ts.0 ≡ ts
  pub earlier : (k : ℕ) (d : Pending) → k < at → (slice_index_or ps k d).ts.0 ≢ ts

-- the timestamp of the first of them, or `next` where there is none
abbrev pub first_or : ℕ → List Pending → ℕ
first_or next [] = next
first_or next (p ∷ ps) = p.ts.0

-- the receiver is not waited for: it has acknowledged the scattering, or, where that is recalled, it failed or took it back
abbrev pub has_answered : List SenderCall → Scattering → (HostId × List ℕ) → Bool
has_answered calls s d = if is_recalled calls s then is_noted calls d.0.0
    || is_recall_acked calls s d.0.0 else is_acked calls s.ts.0 d.0.0

-- what is kept of a scattering that is not settled
abbrev pub kept_of : List SenderCall → Scattering → Pending
kept_of calls s =
    record { ts = s.ts; dests = s.dests; marks = map (has_answered calls s) s.dests; recalled = is_recalled calls s }

-- What is kept is what the calls made leave unsettled. Each scattering was begun above those before it.
pub record Stands (calls : List SenderCall) (kept : List Pending) : Type 0 where
  pub rising : AreRising (begun calls)
  pub kept_are : kept ≡ map (kept_of calls) (unsettled calls)
