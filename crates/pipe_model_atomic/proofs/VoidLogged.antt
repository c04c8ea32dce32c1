-- Nothing void is logged: what a host logs is not void by what it has noted, and its barrier is at most the time of a host that it
-- has not noted.
use Rattle.std.proofs.Common.{◌≡◌, ℕ, ◌<◌, ◌≤◌, not, Bool, true, false, List, ◌∷◌, map, get_or, refl, sym, subst, ap, ◌∙◌, true≢false, arith}
use Rattle.std.proofs.lemmas.Bool.{not-true}
use Rattle.std.specs.List.{All}
use Rattle.std.proofs.lemmas.List.Elements.{All-append, All-filter, All-map, All-weaker, filter_passes}
use Rattle.pipe_base.specs.declared.control.Announced.{Announced}
use Rattle.pipe_base.specs.declared.message.Entry.{Entry}
use Rattle.pipe_base.specs.declared.message.Key.{Key}
use Rattle.pipe_base.specs.declared.message.Service.TheVariants.{Reliable}
use Rattle.pipe_base.specs.declared.packet.Plane.TheVariants.{Commit}
use Rattle.pipe_base.specs.Failed.{is_announced, is_void, without_void}
use Rattle.pipe_graph.specs.Graph.{Graph}
use Rattle.pipe_base.specs.Messages.{Messages, entry_of, from_barrier}
use Rattle.pipe_model.specs.declared.record.Record.{Record}
use Rattle.pipe_model.specs.Acting.{is_own, own}
use Rattle.pipe_model.specs.Controller.{announced}
use Rattle.pipe_model.specs.Fate.{held}
use Rattle.pipe_model.specs.Logged.{entries_of, log, passed_in, standing}
use Rattle.pipe_model.specs.Moments.{barrier_at, noted_hosts}
use Rattle.pipe_model.specs.Run.{IsHistory, IsNodeStep}
use Rattle.pipe_model.proofs.Entries.{entries_logged}
use Rattle.pipe_model.proofs.Own.{node_history, own_more, own_same}
use Rattle.pipe_model_node.proofs.Ordered.{log_below_barrier}
use Rattle.pipe_model_atomic.specs.Begins.{Begins}
use Rattle.pipe_model_atomic.specs.NotedFirst.{AreNotedFirst}
use Rattle.pipe_model_atomic.specs.NoneVoidLogged.{IsNoneVoidLogged}
use Rattle.pipe_model_atomic.specs.Present.{IsPresent}
use Rattle.pipe_model_atomic.specs.Sentences.{Bounding}
use Rattle.pipe_model_atomic.proofs.Bounds.{commit_of, time_bounds}
use Rattle.pipe_model_atomic.proofs.CutOff.{present_before}
use Rattle.pipe_model_atomic.proofs.Noted.{keeps_noted_first, noted_in_time}
use Rattle.pipe_model_atomic.proofs.Times.{not_void_first, void_gives, void_noted}

-- ---- nothing that was logged is void by what is noted

-- an entry that is not void
abbrev IsFree : List Announced → Entry → Type 0
IsFree failed e = is_void failed e.key ≡ false

passed_free : (graph : Graph) (node : ℕ) (own : List Record) (r : Record) → All (IsFree (noted_hosts (r ∷ own))) (map entry_of (passed_in Reliable graph node own r))
passed_free graph node own r =
    let failed : List Announced = noted_hosts (r ∷ own) in
    let ms : Messages = held Reliable graph node (r ∷ own) in
    let stands : Messages = standing Reliable graph node (r ∷ own) in
    let P : Key × List ℕ → Type 0 = λ m. is_void failed m.0 ≡ false in
    All-map (IsFree failed) entry_of (passed_in Reliable graph node own r)
    (All-filter _ P (from_barrier (barrier_at Commit graph node own) stands)
    (All-filter _ P stands
    (All-filter _ P (without_void failed ms)
    (All-weaker (λ (m : Key × List ℕ). not (is_void failed m.0) ≡ true) P (λ (m : Key × List ℕ) is. not-true (is_void failed m.0) is) (without_void failed ms)
    (filter_passes (λ (m : Key × List ℕ). not (is_void failed m.0)) ms)))))

logged_free : (graph : Graph) (node : ℕ) (own : List Record) (r : Record) → IsNodeStep graph node own r
    → All (IsFree (noted_hosts (r ∷ own))) (entries_of Reliable r.step.logged)
logged_free graph node own r step =
    subst (All (IsFree (noted_hosts (r ∷ own)))) (sym (ap (entries_of Reliable) step.logged_is ∙ entries_logged Reliable graph node own r)) (passed_free graph node own r)

free_first : (xs ys : List Announced) (es : List Entry) → Begins xs ys → All (IsFree ys) es → All (IsFree xs) es
free_first xs ys es begins all = All-weaker (IsFree ys) (IsFree xs) (λ (e : Entry) is. not_void_first e.key xs ys begins is) es all

free_by : (b : Bool) (graph : Graph) (past : List Record) (r : Record) (host : ℕ) → IsHistory graph (r ∷ past) → AreNotedFirst graph past → is_own graph host r ≡ b
    → All (IsFree (announced graph past)) (log Reliable (own graph host past))
    → All (IsFree (noted_hosts (own graph host (r ∷ past)))) (log Reliable (own graph host (r ∷ past)))
free_by true graph past r host run first mine before =
    let o : List Record = own graph host past in
    let begins : Begins (noted_hosts (r ∷ o)) (announced graph past) =
    subst (λ (x : List Record). Begins (noted_hosts x) (announced graph past)) (own_more graph host r past mine) (noted_in_time graph past r host run first) in
    subst (λ (x : List Record). All (IsFree (noted_hosts x)) (log Reliable x)) (sym (own_more graph host r past mine))
    (All-append (IsFree (noted_hosts (r ∷ o))) (log Reliable o) (entries_of Reliable r.step.logged)
    (free_first (noted_hosts (r ∷ o)) (announced graph past) (log Reliable o) begins before)
    (logged_free graph host o r (run.1.node host mine)))
free_by false graph past r host run first other before =
    subst (λ (x : List Record). All (IsFree (noted_hosts x)) (log Reliable x)) (sym (own_same graph host r past other))
    (free_first (noted_hosts (own graph host past)) (announced graph past) (log Reliable (own graph host past)) (first host) before)

-- ---- so nothing is void by what was announced

free_of : (void noted : Bool) (graph : Graph) (past : List Record) (host : ℕ) (key : Key) → IsHistory graph past → Bounding graph past → AreNotedFirst graph past → IsPresent graph past host
    → is_void (announced graph past) key ≡ void → is_announced key.src.0 (noted_hosts (own graph host past)) ≡ noted
    → is_void (noted_hosts (own graph host past)) key ≡ false → key.ts.0 < commit_of graph past host → void ≡ false
free_of true true graph past host key run holds first present is noted free below =
    absurd (true≢false (sym (void_noted key (noted_hosts (own graph host past)) (announced graph past) (first host) noted is) ∙ free))
free_of true false graph past host key run holds first present is unnoted free below =
    let at = void_gives key (announced graph past) is in
    let low : commit_of graph past host ≤ at.0.0 = time_bounds graph past run holds key.src.0 host at.0 at.1 present unnoted in
    absurd (omega (arith, low, at.2, below))
free_of false noted graph past host key run holds first present isnt known free below = refl

pub keeps_none_void : (graph : Graph) (past : List Record) (r : Record) → IsHistory graph (r ∷ past) → Bounding graph (r ∷ past) → AreNotedFirst graph past
    → IsNoneVoidLogged graph past → IsNoneVoidLogged graph (r ∷ past)
keeps_none_void graph past r run holds first before host present k d lt =
    let o : List Record = own graph host (r ∷ past) in
    let e : Entry = get_or (log Reliable o) k d in
    let free : All (IsFree (noted_hosts o)) (log Reliable o) =
    free_by (is_own graph host r) graph past r host run first refl (before host (present_before graph past r host present)) in
    free_of (is_void (announced graph (r ∷ past)) e.key) (is_announced e.key.src.0 (noted_hosts o)) graph (r ∷ past) host e.key run holds
    (keeps_noted_first graph past r run first) present refl refl (free k d lt)
    (log_below_barrier Reliable graph host o (node_history graph host (r ∷ past) run) k d lt)
