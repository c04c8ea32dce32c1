-- When a reliable scattering is settled: decided for good, as one that all receivers hold or that is taken back everywhere.
use Rattle.std.specs.Prelude.{ℕ, ◌==◌, ◌&&◌, ◌||◌, not, if◌then◌else◌, Bool, false, List, [], ◌∷◌, filter}
use Rattle.std.specs.List.{list_any, list_all}
use Rattle.pipe_base.specs.Failed.{is_announced}
use Rattle.pipe_base.specs.Scattering.{Scattering, SenderCall, Acked, Noted, RecallAcked, begun, is_begun}

-- The host's acknowledgement of the scattering with this timestamp counts: it came after the scattering was begun.
abbrev pub is_acked : List SenderCall → ℕ → ℕ → Bool
is_acked [] ts host = false
is_acked (Acked t h ∷ past) ts host = (((ts == t) && (host == h)) && is_begun past ts) || is_acked past ts host
is_acked (_ ∷ past) ts host = is_acked past ts host

-- The host is noted as failed.
abbrev pub is_noted : List SenderCall → ℕ → Bool
is_noted [] host = false
is_noted (Noted failed ∷ past) host = is_announced host failed || is_noted past host
is_noted (_ ∷ past) host = is_noted past host

-- a receiver is noted as failed that has not acknowledged the scattering
abbrev pub has_failed : List SenderCall → Scattering → Bool
has_failed calls s = list_any (λ d. is_noted calls d.0.0 && not (is_acked calls s.ts.0 d.0.0)) s.dests

-- The scattering is taken back: after it was begun, as failed hosts were noted, a receiver was among them that had not
-- acknowledged it.
abbrev pub is_recalled : List SenderCall → Scattering → Bool
is_recalled [] s = false
is_recalled (Noted failed ∷ past) s = is_recalled past s || (is_begun past s.ts.0 && has_failed (Noted failed ∷ past) s)
is_recalled (_ ∷ past) s = is_recalled past s

-- The host has said, since the scattering was recalled, that it took it back.
abbrev pub is_recall_acked : List SenderCall → Scattering → ℕ → Bool
is_recall_acked [] s host = false
is_recall_acked (RecallAcked ts h ∷ past) s host = (((s.ts.0 == ts) && (host == h)) && is_recalled past s)
    || is_recall_acked past s host
is_recall_acked (_ ∷ past) s host = is_recall_acked past s host

-- a recalled scattering waits for this receiver
abbrev pub awaits : List SenderCall → Scattering → ℕ → Bool
awaits calls s host = not (is_noted calls host || is_recall_acked calls s host)

-- all receivers have acknowledged the scattering
abbrev pub is_prepared : List SenderCall → Scattering → Bool
is_prepared calls s = list_all (λ d. is_acked calls s.ts.0 d.0.0) s.dests

-- Settled: where it is recalled, no receiver is waited for any more; otherwise all receivers have acknowledged it.
abbrev pub is_settled : List SenderCall → Scattering → Bool
is_settled calls s =
    if is_recalled calls s then not (list_any (λ d. awaits calls s d.0.0) s.dests) else is_prepared calls s

-- the scatterings that are not settled, the oldest first
abbrev pub unsettled : List SenderCall → List Scattering
unsettled calls = filter (λ s. not (is_settled calls s)) (begun calls)

-- some scattering that is not settled is recalled
abbrev pub is_recalling : List SenderCall → Bool
is_recalling calls = list_any (λ s. is_recalled calls s) (unsettled calls)
