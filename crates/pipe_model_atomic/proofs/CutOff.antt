-- A present host has noted a host that was announced, or is cut off from it while that takes part: it was when the host was announced,
-- reports stay until links are dropped, and then all that stay have noted all that were announced.
use Rattle.std.proofs.Common.{◌≡◌, ◌⊎◌, ℕ, ◌<◌, ◌≤◌, ◌==◌, ◌&&◌, ◌||◌, not, nat_le, if◌then◌else◌, Bool, true, false, List, ◌∷◌, ◌++◌, length, Option, None, Some, refl, inl, inr, sym, subst, ap, ◌∙◌, eqb-true, true≢false, arith}
use Rattle.std.specs.Prelude.{is_some}
use Rattle.std.proofs.lemmas.Bool.{and_from, and_parts, false_from_ne_true, not-true, or_cases, or_parts}
use Rattle.std.proofs.lemmas.Bool.Decides.{nat_tests}
use Rattle.std.proofs.lemmas.List.Folds.{list_any-append}
use Rattle.pipe_base.specs.declared.control.Announced.{Announced}
use Rattle.pipe_base.specs.declared.name.LinkId.{LinkId}
use Rattle.pipe_base.specs.declared.name.Ts.{Ts}
use Rattle.pipe_base.specs.Failed.{is_announced, time_of}
use Rattle.pipe_graph.specs.Graph.{Graph}
use Rattle.pipe_graph.specs.Reach.{reaches}
use Rattle.pipe_failtime.proofs.CutLaws.{cut_reaches_none}
use Rattle.pipe_failtime.proofs.TimeLaws.{time_in_words}
use Rattle.pipe_model.specs.declared.record.Record.{Record}
use Rattle.pipe_model.specs.Acting.{own}
use Rattle.pipe_model.specs.Controller.{announced, view}
use Rattle.pipe_model.specs.Decision.{after_doom, all_over, newly_announced}
use Rattle.pipe_model.specs.Moments.{noted_hosts}
use Rattle.pipe_model.specs.View.{View, intact, is_due, is_kept}
use Rattle.pipe_model_atomic.specs.GoneAreNoted.{AreGoneNoted}
use Rattle.pipe_model_atomic.specs.NotedOrCutOff.{AreNotedOrCutOff, is_open, is_within}
use Rattle.pipe_model_atomic.specs.Present.{IsPresent}
use Rattle.pipe_model_atomic.specs.PresentAreMembers.{ArePresentMembers}
use Rattle.pipe_model_atomic.specs.Sentences.{Knowing}
use Rattle.pipe_model_atomic.proofs.Announcing.{IsGoing, all_due_going, newly_going, over_at}
use Rattle.pipe_model_atomic.proofs.Members.{trusted_told}
use Rattle.pipe_model_atomic.proofs.Reaching.{AreFedIn, reaches_fed, reaches_fewer}
use Rattle.pipe_model_atomic.proofs.Times.{announced_still, begins_more, begins_whole, has_time, is_timed, one_time, time_after, time_begins, time_gives}
use Rattle.pipe_model_atomic.proofs.Told.{noted_more}
use Rattle.pipe_model_atomic.proofs.Views.{decision_after, member_before, member_in, reported, told_view, trusted_before, untold, view_after}

-- ---- reports stay until links are dropped, so open links grow fewer

intact_by : (o : Option Ts) (live : Bool) (time : Ts) → (live && not (is_some o)) ≡ true → (live && not (is_within time o)) ≡ true
intact_by None live time is = is
intact_by (Some value) live time is = absurd (true≢false (sym (and_parts live false is).1))

open_by : (b : Bool) (v : View) (link told : ℕ) (value time : Ts) → (link == told) ≡ b → intact v told ≡ true
    → (v.live link && not (is_within time (if b then Some value else v.reports link))) ≡ true → is_open v time link ≡ true
open_by true v link told value time same whole is =
    subst (λ (n : ℕ). is_open v time n ≡ true) (sym (eqb-true link told same)) (intact_by (v.reports told) (v.live told) time whole)
open_by false v link told value time other whole is = is

still_cut : (graph : Graph) (v : View) (link : LinkId) (value time : Ts) (host other : ℕ) → intact v link.0 ≡ true → reaches graph (is_open v time) host other ≡ false
    → reaches graph (is_open (reported link value v) time) host other ≡ false
still_cut graph v link value time host other whole cut =
    reaches_fewer graph (is_open (reported link value v) time) (is_open v time) host other (λ l known is. open_by (l == link.0) v l link.0 value time refl whole is) cut

pub present_before : (graph : Graph) (past : List Record) (r : Record) (host : ℕ) → IsPresent graph (r ∷ past) host → IsPresent graph past host
present_before graph past r host present = record { member = member_before graph past r host present.member; trusted = trusted_before graph past r host present.trusted }

-- ---- hosts that a decision announces

-- an open link that a going host feeds is intact: it would be reported of at most the time
whole_by : (o : Option Ts) (live : Bool) (time : Ts) → ((value : Ts) → o ≡ Some value → value.0 ≤ time.0) → (live && not (is_within time o)) ≡ true → (live && not (is_some o)) ≡ true
whole_by None live time low is = is
whole_by (Some value) live time low is =
    let within : value.0 ≤ time.0 = low value refl in
    let told : nat_le value.0 time.0 ≡ true = grind (arith, nat_tests, within) in
    absurd (true≢false (sym (and_parts live (not (nat_le value.0 time.0)) is).1 ∙ ap not told))

going_intact : (graph : Graph) (v : View) (host : ℕ) (time : Ts) → IsGoing graph v host time → AreFedIn graph (is_open v time) v.live host (intact v)
going_intact graph v host time going link known is_open_link fed =
    let words = time_in_words graph v.live v.reports host time going.time_is in
    let live : v.live link ≡ true = (and_parts (v.live link) (not (is_within time (v.reports link))) is_open_link).0 in
    whole_by (v.reports link) (v.live link) time
    (λ value is. words.greatest link value (record { known = known; is_live = live; fed = fed; report = is })) is_open_link

going_cut : (graph : Graph) (v : View) (host other : ℕ) (time : Ts) → IsGoing graph v host time → other < graph.hosts → is_kept v other ≡ true
    → reaches graph (is_open v time) host other ≡ false
going_cut graph v host other time going other_in kept =
    false_from_ne_true (reaches graph (is_open v time) host other)
    (λ reached. true≢false (sym (reaches_fed graph (is_open v time) v.live (intact v) host other
    (λ link known is. (and_parts (v.live link) (not (is_within time (v.reports link))) is).0)
    (going_intact graph v host time going) reached)
    ∙ cut_reaches_none graph (intact v) (is_kept v) host other going.cut other_in kept))

-- who is present after somebody was announced is kept, as all that had to go were announced
kept_by : (doomed : Bool) (graph : Graph) (v : View) (host other : ℕ) (time : Ts) → v.doomed other ≡ doomed → time_of host (newly_announced graph v) ≡ Some time
    → other < graph.hosts → v.members other ≡ true → is_announced other v.announced ≡ false → is_announced other (newly_announced graph v) ≡ false → is_kept v other ≡ true
kept_by true graph v host other time gone some other_in member old new =
    let due : is_due v other ≡ true = and_from (v.doomed other) (not (is_announced other v.announced)) gone (ap not old) in
    absurd (true≢false (sym (all_due_going graph v host other time some other_in due) ∙ new))
kept_by false graph v host other time stays some other_in member old new = and_from (v.members other) (not (v.doomed other)) member (ap not stays)

newly_cut : (graph : Graph) (v : View) (host other : ℕ) (time : Ts) → is_announced host v.announced ≡ false → other < graph.hosts → v.members other ≡ true
    → time_of host (v.announced ++ newly_announced graph v) ≡ Some time → is_announced other (v.announced ++ newly_announced graph v) ≡ false
    → reaches graph (is_open v time) host other ≡ false
newly_cut graph v host other time wasnt other_in member is trusted =
    let new : time_of host (newly_announced graph v) ≡ Some time = sym (time_after host v.announced (newly_announced graph v) wasnt) ∙ is in
    let neither = or_parts (is_announced other v.announced) (is_announced other (newly_announced graph v))
    (sym (list_any-append (λ (a : Announced). a.host.0 == other) v.announced (newly_announced graph v)) ∙ trusted) in
    let going : IsGoing graph v host time = time_gives (IsGoing graph v) host time (newly_announced graph v) (newly_going graph v) new in
    going_cut graph v host other time going other_in (kept_by (v.doomed other) graph v host other time refl new other_in member neither.0 neither.1)

-- ---- where links are dropped, all that stay have noted all that were announced

all_noted : (graph : Graph) (past : List Record) → Knowing graph past → (other : ℕ) → other < graph.hosts → all_over graph (told_view graph (view graph past)) ≡ true
    → is_kept (told_view graph (view graph past)) other ≡ true → (told_view graph (view graph past)).announced ≡ noted_hosts (own graph other past)
all_noted graph past knows other other_in over kept =
    let v : View = view graph past in
    let w : View = told_view graph v in
    let noted : List Announced = noted_hosts (own graph other past) in
    let count : v.done other ≡ length w.announced = (over_at graph w other over other_in).noted kept in
    let told : v.done other ≤ length noted = knows.counts_true.done other in
    begins_whole noted w.announced (begins_more noted v.announced w.announced (knows.noted_first other) (newly_announced graph (after_doom graph v), refl))
    (omega (arith, count, told))

noted_all : (graph : Graph) (past : List Record) → Knowing graph past → (host other : ℕ) → other < graph.hosts → all_over graph (told_view graph (view graph past)) ≡ true
    → is_kept (told_view graph (view graph past)) other ≡ true → is_announced host (told_view graph (view graph past)).announced ≡ true
    → is_announced host (noted_hosts (own graph other past)) ≡ true
noted_all graph past knows host other other_in over kept is =
    sym (ap (is_announced host) (all_noted graph past knows other other_in over kept)) ∙ is

-- ---- hosts that take part

-- by a view, a host has noted the other one by a history, or is cut off from it
abbrev IsKnownFor : Graph → List Record → ℕ → ℕ → Ts → View → Type 0
IsKnownFor graph past host other time v = (is_announced host (noted_hosts (own graph other past)) ≡ true) ⊎ (reaches graph (is_open v time) host other ≡ false)

-- this is so where the one was announced and takes part, and the other one is present
abbrev IsKnownIn : Graph → List Record → ℕ → ℕ → Ts → View → Type 0
IsKnownIn graph past host other time v =
    time_of host v.announced ≡ Some time → v.members host ≡ true → v.members other ≡ true → is_announced other v.announced ≡ false → IsKnownFor graph past host other time v

known_told : (before : Bool) (graph : Graph) (past : List Record) (host other : ℕ) (time : Ts) → is_announced host (announced graph past) ≡ before → other < graph.hosts
    → IsKnownIn graph past host other time (view graph past) → IsKnownIn graph past host other time (told_view graph (view graph past))
known_told true graph past host other time was other_in known is member other_member trusted =
    let v : View = view graph past in
    let w : View = told_view graph v in
    let at = has_time host v.announced was in
    let still : time_of host w.announced ≡ Some at.0 = time_begins host at.0 v.announced w.announced (newly_announced graph (after_doom graph v), refl) at.1 in
    let same : at.0 ≡ time = one_time at.0 time (sym still ∙ is) in
    known (at.1 ∙ ap (λ (t : Ts). Some t) same) member other_member (trusted_told graph v other trusted)
known_told false graph past host other time wasnt other_in known is member other_member trusted =
    inr (newly_cut graph (after_doom graph (view graph past)) host other time wasnt other_in other_member is trusted)

known_reported : (graph : Graph) (past : List Record) (host other : ℕ) (time : Ts) (v : View) (link : LinkId) (value : Ts) → intact v link.0 ≡ true
    → IsKnownIn graph past host other time v → IsKnownIn graph past host other time (reported link value v)
known_reported graph past host other time v link value whole known is member other_member trusted =
    elim (known is member other_member trusted) [
      | inl noted ↦ inl noted
      | inr cut ↦ inr (still_cut graph v link value time host other whole cut)
    ]

known_after : (graph : Graph) (past : List Record) (r : Record) (host other : ℕ) (time : Ts) → Knowing graph past → AreNotedOrCutOff graph past → other < graph.hosts
    → IsKnownIn graph past host other time (view graph (r ∷ past))
known_after graph past r host other time knows holds other_in =
    let v : View = view graph past in
    let P : View → Type 0 = IsKnownIn graph past host other time in
    let old : P v = λ is member other_member trusted. holds host other time is member (record { member = other_member; trusted = trusted }) in
    view_after P graph r.event r.took r.step.outcome v
    (λ m took. record {
      down = λ link value told whole. known_reported graph past host other time v link value whole old;
      done = λ node count told. old;
      gone = λ node count told. old;
    })
    (λ decides. decision_after P graph v (known_told (is_announced host v.announced) graph past host other time refl other_in old)
    (λ over is member other_member trusted.
    inl (noted_all graph past knows host other other_in over other_member (is_timed host time (told_view graph v).announced is))))
    old

pub keeps_noted_or_cut_off : (graph : Graph) (past : List Record) (r : Record) → Knowing graph past → AreNotedOrCutOff graph past → AreNotedOrCutOff graph (r ∷ past)
keeps_noted_or_cut_off graph past r knows holds host other time is member present =
    elim (known_after graph past r host other time knows holds (member_in graph (r ∷ past) other present.member) is member present.member present.trusted) [
      | inl noted ↦ inl (announced_still host (noted_hosts (own graph other past)) (noted_hosts (own graph other (r ∷ past))) (noted_more graph past r other) noted)
      | inr cut ↦ inr cut
    ]

-- ---- hosts that have left

-- a host that is announced now takes part: it was due, so not announced before
told_member : (graph : Graph) (past : List Record) → ArePresentMembers graph past → (host : ℕ) → is_announced host (newly_announced graph (after_doom graph (view graph past))) ≡ true
    → (view graph past).members host ≡ true
told_member graph past present host is =
    let v : View = view graph past in
    let w : View = after_doom graph v in
    let at = has_time host (newly_announced graph w) is in
    let going : IsGoing graph w host at.0 = time_gives (IsGoing graph w) host at.0 (newly_announced graph w) (newly_going graph w) at.1 in
    present host going.host_in (not-true (is_announced host v.announced) (and_parts (w.doomed host) (not (is_announced host v.announced)) going.due).1)

-- by a view, a host that was announced and takes part no more is noted by another one that does, by a history
abbrev IsNotedIn : Graph → List Record → ℕ → ℕ → View → Type 0
IsNotedIn graph past host other v =
    is_announced host v.announced ≡ true → v.members host ≡ false → v.members other ≡ true → is_announced host (noted_hosts (own graph other past)) ≡ true

noted_told : (graph : Graph) (past : List Record) (host other : ℕ) → ArePresentMembers graph past → IsNotedIn graph past host other (view graph past)
    → IsNotedIn graph past host other (told_view graph (view graph past))
noted_told graph past host other present known is gone member =
    let v : View = view graph past in
    let new : List Announced = newly_announced graph (after_doom graph v) in
    elim (or_cases (is_announced host v.announced) (is_announced host new) (sym (list_any-append (λ (a : Announced). a.host.0 == host) v.announced new) ∙ is)) [
      | inl before ↦ known before gone member
      | inr now ↦ absurd (true≢false (sym (told_member graph past present host now) ∙ gone))
    ]

pub keeps_gone_noted : (graph : Graph) (past : List Record) (r : Record) → Knowing graph past → ArePresentMembers graph past → AreGoneNoted graph past → AreGoneNoted graph (r ∷ past)
keeps_gone_noted graph past r knows present holds host other is gone member =
    let v : View = view graph past in
    let P : View → Type 0 = IsNotedIn graph past host other in
    let old : P v = holds host other in
    let other_in : other < graph.hosts = member_in graph (r ∷ past) other member in
    announced_still host (noted_hosts (own graph other past)) (noted_hosts (own graph other (r ∷ past))) (noted_more graph past r other)
    (view_after P graph r.event r.took r.step.outcome v (untold P v r.took (λ link value. old) (λ node count. old) (λ node count. old))
    (λ decides. decision_after P graph v (noted_told graph past host other present old)
    (λ over told left stays. noted_all graph past knows host other other_in over stays told))
    old is gone member)
