-- Links are dropped once, and are links of the graph: a decision drops links that count, each once, and none that was dropped
-- counts. So it is with the hosts that are announced.
use Rattle.std.proofs.Common.{◌≡◌, ◌≢◌, ℕ, ◌<◌, ◌==◌, ◌||◌, if◌then◌else◌, Bool, true, false, List, [], ◌∷◌, ◌++◌, length, get_or, filter, refl, sym, ◌∙◌, true≢false, eq-eqb, arith}
use Rattle.std.specs.List.{All, AllPairs}
use Rattle.std.proofs.lemmas.Bool.{and_parts, not-true}
use Rattle.std.proofs.lemmas.List.Elements.{All-nil, All-append, All-weaker, filter_passes}
use Rattle.std.proofs.lemmas.List.Folds.{list_any_at}
use Rattle.std.proofs.lemmas.List.Kept.{AllPairs-filter}
use Rattle.pipe_base.specs.declared.control.Announced.{Announced}
use Rattle.pipe_base.specs.declared.name.LinkId.{LinkId}
use Rattle.pipe_base.specs.Moment.{has_link}
use Rattle.pipe_graph.specs.Graph.{Graph, all_links}
use Rattle.pipe_graph.specs.Passable.{not_dropped}
use Rattle.pipe_graph.specs.Reported.{is_reported}
use Rattle.pipe_graph.specs.Useless.{is_useless}
use Rattle.pipe_graph.proofs.Listed.{listed_below}
use Rattle.pipe_model.specs.declared.record.Record.{Record}
use Rattle.pipe_model.specs.Acting.{own}
use Rattle.pipe_model.specs.Controller.{announced, dropped, view}
use Rattle.pipe_model.specs.Decision.{after_doom, all_over, is_dead, newly_announced, newly_dead}
use Rattle.pipe_model.specs.Moments.{known_drops}
use Rattle.pipe_model.specs.Run.{IsHistory}
use Rattle.pipe_model.specs.View.{View, intact, is_kept}
use Rattle.pipe_model_node.proofs.MarkedOnce.{AreTwo, links_differ, pairs_both}
use Rattle.pipe_model_atomic.specs.AnnouncedOnce.{AreAnnouncedOnce}
use Rattle.pipe_model_atomic.specs.DropsKnownFirst.{AreDropsKnownFirst}
use Rattle.pipe_model_atomic.specs.LiveNotDropped.{AreLiveNotDropped}
use Rattle.pipe_model_atomic.specs.NotedFirst.{AreNotedFirst}
use Rattle.pipe_model_atomic.proofs.Announcing.{IsGoing, newly_going}
use Rattle.pipe_model_atomic.proofs.Drops.{keeps_drops_known, keeps_live_not_dropped}
use Rattle.pipe_model_atomic.proofs.Noted.{keeps_noted_first}
use Rattle.pipe_model_atomic.proofs.Once.{keeps_announced_once}
use Rattle.pipe_model_atomic.proofs.Times.{begins_same}
use Rattle.pipe_model_atomic.proofs.Views.{decision_after, told_view, untold, view_after}
use Rattle.pipe_model_bounds.specs.DroppedOnce.{AreDroppedOnce}
use Rattle.pipe_model_bounds.proofs.Few.{pairs_begin}

-- ---- what nodes know of it

live_not_dropped : (graph : Graph) (past : List Record) → AreLiveNotDropped graph past
live_not_dropped graph [] = λ link live. refl
live_not_dropped graph (r ∷ past) = keeps_live_not_dropped graph past r (live_not_dropped graph past)

pub drops_known : (graph : Graph) (past : List Record) → IsHistory graph past → AreDropsKnownFirst graph past
drops_known graph [] run = λ node. begins_same []
drops_known graph (r ∷ past) run = keeps_drops_known graph past r run (drops_known graph past run.0)

pub noted_first : (graph : Graph) (past : List Record) → IsHistory graph past → AreNotedFirst graph past
noted_first graph [] run = λ node. begins_same []
noted_first graph (r ∷ past) run = keeps_noted_first graph past r run (noted_first graph past run.0)

-- ---- what is dropped

-- different links of the graph
abbrev pub AreLinks : Graph → List LinkId → Type 0
AreLinks graph links = AllPairs AreTwo links × All (λ l. l.0 < length graph.links) links

none_differ : {A : Type 0} (R : A → A → Type 0) → AllPairs R []
none_differ R i j d lt inside = absurd (omega (arith, inside))

newly_links : (graph : Graph) (v : View) → AreLinks graph (newly_dead graph v) × All (λ l. v.live l.0 ≡ true) (newly_dead graph v)
newly_links graph v = by (all_over graph v)
  where
    dead : LinkId → Bool
    dead l = is_dead graph v l.0

    by : (b : Bool) → AreLinks graph (if b then filter dead (all_links graph) else []) × All (λ l. v.live l.0 ≡ true) (if b then filter dead (all_links graph) else [])
    by true = (
      (AllPairs-filter AreTwo dead (all_links graph) (links_differ graph), listed_below dead (length graph.links)),
      All-weaker (λ (l : LinkId). dead l ≡ true) (λ (l : LinkId). v.live l.0 ≡ true)
          (λ l is. (and_parts (v.live l.0) (is_reported v.reports l.0 || is_useless graph (intact v) (is_kept v) l.0) is).0) (filter dead (all_links graph)) (filter_passes dead (all_links graph)),
    )
    by false = ((none_differ AreTwo, All-nil (λ (l : LinkId). l.0 < length graph.links)), All-nil (λ (l : LinkId). v.live l.0 ≡ true))

apart : (xs ys : List LinkId) → All (λ y. not_dropped xs y.0 ≡ true) ys → All (λ x. All (AreTwo x) ys) xs
apart xs ys none k d lt j e inside same =
    let y : LinkId = get_or ys j e in
    true≢false (sym (list_any_at (λ (l : LinkId). l.0 == y.0) xs k d lt (eq-eqb (get_or xs k d).0 y.0 same)) ∙ not-true (has_link y.0 xs) (none j e inside))

dropped_more : (graph : Graph) (v : View) → ((link : ℕ) → v.live link ≡ true → not_dropped v.dropped link ≡ true) → AreLinks graph v.dropped
    → AreLinks graph (v.dropped ++ newly_dead graph v)
dropped_more graph v undropped before =
    let new = newly_links graph v in
    let fresh : All (λ l. not_dropped v.dropped l.0 ≡ true) (newly_dead graph v) =
    All-weaker (λ (l : LinkId). v.live l.0 ≡ true) (λ (l : LinkId). not_dropped v.dropped l.0 ≡ true) (λ l live. undropped l.0 live) (newly_dead graph v) new.1 in (
      pairs_both AreTwo v.dropped (newly_dead graph v) before.0 new.0.0 (apart v.dropped (newly_dead graph v) fresh),
      All-append (λ (l : LinkId). l.0 < length graph.links) v.dropped (newly_dead graph v) before.1 new.0.1,
    )

pub dropped_links : (graph : Graph) (past : List Record) → AreLinks graph (dropped graph past)
dropped_links graph [] = (none_differ AreTwo, All-nil (λ (l : LinkId). l.0 < length graph.links))
dropped_links graph (r ∷ past) =
    let v : View = view graph past in
    let before : AreLinks graph v.dropped = dropped_links graph past in
    let P : View → Type 0 = λ w. AreLinks graph w.dropped in
    view_after P graph r.event r.took r.step.outcome v (untold P v r.took (λ link value. before) (λ host count. before) (λ node count. before))
    (λ decides. decision_after P graph v before (λ over. dropped_more graph (told_view graph v) (live_not_dropped graph past) before)) before

-- with those that a decision would drop now
pub decided_links : (graph : Graph) (past : List Record) → AreLinks graph (dropped graph past ++ newly_dead graph (told_view graph (view graph past)))
decided_links graph past = dropped_more graph (told_view graph (view graph past)) (live_not_dropped graph past) (dropped_links graph past)

pub dropped_once : (graph : Graph) (past : List Record) → IsHistory graph past → AreDroppedOnce graph past
dropped_once graph past run =
    let all = (dropped_links graph past).0 in
    record { dropped = all; known = λ node. pairs_begin AreTwo (known_drops (own graph node past)) (dropped graph past) (drops_known graph past run node) all }

-- ---- who is announced

pub announced_once : (graph : Graph) (past : List Record) → AreAnnouncedOnce graph past
announced_once graph [] = none_differ (λ (a b : Announced). a.host.0 ≢ b.host.0)
announced_once graph (r ∷ past) = keeps_announced_once graph past r (announced_once graph past)

pub announced_hosts : (graph : Graph) (past : List Record) → All (λ a. a.host.0 < graph.hosts) (announced graph past)
announced_hosts graph [] = All-nil (λ (a : Announced). a.host.0 < graph.hosts)
announced_hosts graph (r ∷ past) =
    let v : View = view graph past in
    let IsHost : Announced → Type 0 = λ a. a.host.0 < graph.hosts in
    let before : All IsHost v.announced = announced_hosts graph past in
    let P : View → Type 0 = λ w. All IsHost w.announced in
    let new : All IsHost (newly_announced graph (after_doom graph v)) =
    All-weaker (λ (a : Announced). IsGoing graph (after_doom graph v) a.host.0 a.time) IsHost (λ a going. going.host_in) (newly_announced graph (after_doom graph v)) (newly_going graph (after_doom graph v)) in
    let more : P (told_view graph v) = All-append IsHost v.announced (newly_announced graph (after_doom graph v)) before new in
    view_after P graph r.event r.took r.step.outcome v (untold P v r.took (λ link value. before) (λ host count. before) (λ node count. before))
    (λ decides. decision_after P graph v more (λ over. more)) before
