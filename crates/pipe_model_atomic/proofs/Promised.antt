-- The time of a host that is announced is at most what it promises: it was received on a link that it feeds.
use Rattle.std.proofs.Common.{◌≡◌, ℕ, ◌≤◌, ◌==◌, ◌&&◌, Bool, true, false, List, ◌∷◌, Some, refl, inl, inr, sym, subst, ap, ◌∙◌, eqb-true, le_trans, true≢false, arith}
use Rattle.std.proofs.lemmas.Bool.{and_parts, or_cases}
use Rattle.pipe_base.specs.declared.name.Ts.{Ts}
use Rattle.pipe_base.specs.Failed.{is_announced, time_of}
use Rattle.pipe_graph.specs.Graph.{Graph, is_half, tail_of}
use Rattle.pipe_graph.specs.Reach.{feeds, reaches}
use Rattle.pipe_failtime.proofs.TimeLaws.{time_in_words}
use Rattle.pipe_graph.proofs.Rounds.{has_path}
use Rattle.pipe_model.specs.declared.record.Record.{Record}
use Rattle.pipe_model.specs.Acting.{is_own, own}
use Rattle.pipe_model.specs.Clock.{promise}
use Rattle.pipe_model.specs.Controller.{announced, is_live, view}
use Rattle.pipe_model.specs.Decision.{after_doom, newly_announced}
use Rattle.pipe_model.specs.Run.{IsHistory}
use Rattle.pipe_model.specs.View.{View}
use Rattle.pipe_model.proofs.Own.{own_more, own_same}
use Rattle.pipe_model.proofs.Promises.{promise_rises}
use Rattle.pipe_model_atomic.specs.Sentences.{Bounding}
use Rattle.pipe_model_atomic.specs.TimesPromised.{AreTimesPromised}
use Rattle.pipe_model_atomic.proofs.Announcing.{IsGoing, newly_going}
use Rattle.pipe_model_atomic.proofs.Bounds.{half_passes_on, host_promises, promise_bounds, promised_of, report_received}
use Rattle.pipe_model_atomic.proofs.Times.{has_time, is_timed, one_time, time_after, time_begins, time_gives}
use Rattle.pipe_model_atomic.proofs.Views.{announced_more, decision_after, told_view, untold, view_after}

-- what the tail of a fed link promises is at most what the host promises
fed_promised : (graph : Graph) (past : List Record) → Bounding graph past → (host link : ℕ) → feeds graph (is_live graph past) host link ≡ true
    → promised_of graph past (tail_of graph link) ≤ promised_of graph past host
fed_promised graph past holds host link fed =
    let tail : ℕ = tail_of graph link in
    elim (or_cases (host == tail) (is_half graph tail && reaches graph (is_live graph past) host tail) fed) [
      | inl first ↦ let same : promised_of graph past host ≡ promised_of graph past tail = ap (promised_of graph past) (eqb-true host tail first) in omega (arith, same)
      | inr later ↦
          let parts = and_parts (is_half graph tail) (reaches graph (is_live graph past) host tail) later in
          let way = has_path graph (is_live graph past) host tail parts.1 in
          subst (λ (n : ℕ). n ≤ promised_of graph past host) (sym (half_passes_on graph past tail parts.0))
          (promise_bounds graph past holds host tail way.0 way.1)
    ]

new_promised : (graph : Graph) (past : List Record) → IsHistory graph past → Bounding graph past → (host : ℕ) (time : Ts) → IsGoing graph (after_doom graph (view graph past)) host time
    → time.0 ≤ promise graph host (own graph host past)
new_promised graph past run holds host time going =
    let words = time_in_words graph (is_live graph past) (view graph past).reports host time going.time_is in
    let link : ℕ = words.link in
    let received : time.0 ≤ promised_of graph past (tail_of graph link) =
    subst (λ (n : ℕ). n ≤ promised_of graph past (tail_of graph link)) (report_received graph past run holds link time words.reported.report)
    (holds.fields_promised link).received in
    subst (λ (n : ℕ). time.0 ≤ n) (host_promises graph past host going.host_in)
    (le_trans received (fed_promised graph past holds host link words.reported.fed))

promise_later : (b : Bool) (graph : Graph) (past : List Record) (r : Record) (host n : ℕ) → IsHistory graph (r ∷ past) → is_own graph host r ≡ b
    → n ≤ promise graph host (own graph host past) → n ≤ promise graph host (own graph host (r ∷ past))
promise_later true graph past r host n run mine low =
    subst (λ (o : List Record). n ≤ promise graph host o) (sym (own_more graph host r past mine))
    (le_trans low (promise_rises graph host (own graph host past) r (run.1.node host mine)))
promise_later false graph past r host n run other low =
    subst (λ (o : List Record). n ≤ promise graph host o) (sym (own_same graph host r past other)) low

time_promised : (before : Bool) (graph : Graph) (past : List Record) (r : Record) (host : ℕ) (time : Ts) → IsHistory graph past → Bounding graph past → AreTimesPromised graph past
    → is_announced host (announced graph past) ≡ before → time_of host (announced graph (r ∷ past)) ≡ Some time → time.0 ≤ promise graph host (own graph host past)
time_promised true graph past r host time run holds promised was is =
    let at = has_time host (announced graph past) was in
    let still : time_of host (announced graph (r ∷ past)) ≡ Some at.0 = time_begins host at.0 (announced graph past) (announced graph (r ∷ past)) (announced_more graph past r) at.1 in
    let same : at.0 ≡ time = one_time at.0 time (sym still ∙ is) in
    subst (λ (t : Ts). t.0 ≤ promise graph host (own graph host past)) same (promised host at.0 at.1)
time_promised false graph past r host time run holds promised wasnt is =
    let v : View = view graph past in
    let low : ℕ → Type 0 = λ n. n ≤ promise graph host (own graph host past) in
    let never : time_of host v.announced ≡ Some time → low time.0 = λ old. absurd (true≢false (sym (is_timed host time v.announced old) ∙ wasnt)) in
    let P : View → Type 0 = λ w. time_of host w.announced ≡ Some time → low time.0 in
    let new : P (told_view graph v) = λ told.
    new_promised graph past run holds host time
    (time_gives (IsGoing graph (after_doom graph v)) host time (newly_announced graph (after_doom graph v)) (newly_going graph (after_doom graph v))
    (sym (time_after host v.announced (newly_announced graph (after_doom graph v)) wasnt) ∙ told)) in
    view_after P graph r.event r.took r.step.outcome v (untold P v r.took (λ link value. never) (λ other count. never) (λ node count. never))
    (λ decides. decision_after P graph v new (λ over. new)) never is

pub keeps_times_promised : (graph : Graph) (past : List Record) (r : Record) → IsHistory graph (r ∷ past) → Bounding graph past → AreTimesPromised graph past
    → AreTimesPromised graph (r ∷ past)
keeps_times_promised graph past r run holds promised host time is =
    promise_later (is_own graph host r) graph past r host time.0 run refl
    (time_promised (is_announced host (announced graph past)) graph past r host time run.0 holds promised refl is)
