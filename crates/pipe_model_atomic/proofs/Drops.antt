-- Nodes come to know dropped links in the order in which they were dropped, and a link that counts was not dropped: so it is in
-- commit use at its head.
use Rattle.std.proofs.Common.{◌≡◌, ℕ, ◌==◌, ◌&&◌, ◌||◌, not, cond, if◌then◌else◌, Bool, true, false, List, [], ◌∷◌, ◌++◌, filter, refl, sym, subst, ap, ◌∙◌, eqb-true, true≢false}
use Rattle.std.specs.List.{list_any}
use Rattle.std.proofs.lemmas.Bool.{and_parts, not-true, not_from_false}
use Rattle.std.proofs.lemmas.List.Folds.{list_any-append}
use Rattle.pipe_base.specs.declared.control.Addressed.{Addressed}
use Rattle.pipe_base.specs.declared.control.Control.{Control}
use Rattle.pipe_base.specs.declared.control.Control.TheVariants.{DropLinks}
use Rattle.pipe_base.specs.declared.name.LinkId.{LinkId}
use Rattle.pipe_graph.specs.Graph.{Graph, all_links, head_of}
use Rattle.pipe_graph.specs.Passable.{not_dropped}
use Rattle.pipe_model.specs.declared.event.Event.{Event}
use Rattle.pipe_model.specs.declared.event.Event.TheVariants.{ControlTake}
use Rattle.pipe_model.specs.declared.record.Record.{Record}
use Rattle.pipe_model.specs.declared.record.Took.{Took}
use Rattle.pipe_model.specs.declared.record.Took.TheVariants.{Message}
use Rattle.pipe_model.specs.Acting.{is_own, own}
use Rattle.pipe_model.specs.Controller.{dropped, view}
use Rattle.pipe_model.specs.Decision.{all_over, is_dead, newly_dead}
use Rattle.pipe_model.specs.Marks.{drops_by, told_drops}
use Rattle.pipe_model.specs.Moments.{known_drops}
use Rattle.pipe_model.specs.Run.{IsHistory}
use Rattle.pipe_model.specs.View.{View}
use Rattle.pipe_model.proofs.Downs.{kept_by_drops}
use Rattle.pipe_model.proofs.Own.{own_more, own_same}
use Rattle.pipe_model_atomic.specs.Begins.{Begins}
use Rattle.pipe_model_atomic.specs.ControlTrue.{IsControlTrue}
use Rattle.pipe_model_atomic.specs.DropsKnownFirst.{AreDropsKnownFirst}
use Rattle.pipe_model_atomic.specs.LiveAreUsed.{AreLiveUsed}
use Rattle.pipe_model_atomic.specs.LiveNotDropped.{AreLiveNotDropped}
use Rattle.pipe_model_atomic.proofs.Times.{begins_more, begins_still, known_and_told}
use Rattle.pipe_model_atomic.proofs.Told.{taken_true}
use Rattle.pipe_model_atomic.proofs.Views.{decision_after, drops_more, told_view, untold, view_after}

-- ---- what nodes come to know

told_more : (graph : Graph) (past : List Record) (known : List LinkId) (control : Control) → Begins known (dropped graph past) → IsControlTrue graph past control
    → Begins (known ++ told_drops known control) (dropped graph past)
told_more graph past known (DropLinks list) mine told = known_and_told known list (dropped graph past) mine told
told_more graph past known _ mine told = begins_still known (dropped graph past) mine

known_more : (graph : Graph) (past : List Record) (known : List LinkId) (event : Event) (took : Took) → Begins known (dropped graph past)
    → ((m : Addressed) → took ≡ Message m → IsControlTrue graph past m.control) → Begins (known ++ drops_by known event took) (dropped graph past)
known_more graph past known (ControlTake place keep) (Message a) mine told = told_more graph past known a.control mine (told a refl)
known_more graph past known _ _ mine told = begins_still known (dropped graph past) mine

known_by : (b : Bool) (graph : Graph) (past : List Record) (r : Record) (node : ℕ) → IsHistory graph (r ∷ past) → AreDropsKnownFirst graph past → is_own graph node r ≡ b
    → Begins (known_drops (own graph node (r ∷ past))) (dropped graph past)
known_by true graph past r node run before mine =
    let known : List LinkId = known_drops (own graph node past) in
    subst (λ (o : List Record). Begins (known_drops o) (dropped graph past)) (sym (own_more graph node r past mine))
    (subst (λ (new : List LinkId). Begins (known ++ new) (dropped graph past)) (sym (run.1.node node mine).dropped_is)
    (known_more graph past known r.event r.took (before node) (λ (m : Addressed) took. taken_true graph past r m run took)))
known_by false graph past r node run before other =
    subst (λ (o : List Record). Begins (known_drops o) (dropped graph past)) (sym (own_same graph node r past other)) (before node)

pub keeps_drops_known : (graph : Graph) (past : List Record) (r : Record) → IsHistory graph (r ∷ past) → AreDropsKnownFirst graph past → AreDropsKnownFirst graph (r ∷ past)
keeps_drops_known graph past r run before node =
    begins_more (known_drops (own graph node (r ∷ past))) (dropped graph past) (dropped graph (r ∷ past))
    (known_by (is_own graph node r) graph past r node run before refl) (drops_more graph past r)

-- ---- what counts was not dropped

-- a link that fails a test is not among those that the test leaves
not_left : (p : ℕ → Bool) (link : ℕ) (ls : List LinkId) → p link ≡ false → list_any (λ l. l.0 == link) (filter (λ l. p l.0) ls) ≡ false
not_left p link [] fails = refl
not_left p link (l ∷ ls) fails = by (p l.0) (l.0 == link) refl refl (not_left p link ls fails)
  where
    by : (b c : Bool) → p l.0 ≡ b → (l.0 == link) ≡ c → list_any (λ k. k.0 == link) (filter (λ k. p k.0) ls) ≡ false
        → list_any (λ k. k.0 == link) (cond b (l ∷ filter (λ k. p k.0) ls) (filter (λ k. p k.0) ls)) ≡ false
    by true true passes same rest = absurd (true≢false (sym passes ∙ ap p (eqb-true l.0 link same) ∙ fails))
    by true false passes other rest = ap (λ (c : Bool). c || list_any (λ (k : LinkId). k.0 == link) (filter (λ (k : LinkId). p k.0) ls)) other ∙ rest
    by false c passes same rest = rest

newly_not : (b : Bool) (graph : Graph) (v : View) (link : ℕ) → is_dead graph v link ≡ false
    → list_any (λ l. l.0 == link) (if b then filter (λ l. is_dead graph v l.0) (all_links graph) else []) ≡ false
newly_not true graph v link alive = not_left (is_dead graph v) link (all_links graph) alive
newly_not false graph v link alive = refl

neither : (a b : Bool) → a ≡ false → b ≡ false → not (a || b) ≡ true
neither true b h k = absurd (true≢false h)
neither false b h k = not_from_false b k

still_not : (graph : Graph) (v : View) (link : ℕ) → (v.live link ≡ true → not_dropped v.dropped link ≡ true) → (v.live link && not (is_dead graph v link)) ≡ true
    → not_dropped (v.dropped ++ newly_dead graph v) link ≡ true
still_not graph v link before is =
    let parts = and_parts (v.live link) (not (is_dead graph v link)) is in
    let test : LinkId → Bool = λ l. l.0 == link in
    ap not (list_any-append test v.dropped (newly_dead graph v))
    ∙ neither (list_any test v.dropped) (list_any test (newly_dead graph v)) (not-true (list_any test v.dropped) (before parts.0))
    (newly_not (all_over graph v) graph v link (not-true (is_dead graph v link) parts.1))

pub keeps_live_not_dropped : (graph : Graph) (past : List Record) (r : Record) → AreLiveNotDropped graph past → AreLiveNotDropped graph (r ∷ past)
keeps_live_not_dropped graph past r before link =
    let v : View = view graph past in
    let P : View → Type 0 = λ w. w.live link ≡ true → not_dropped w.dropped link ≡ true in
    view_after P graph r.event r.took r.step.outcome v (untold P v r.took (λ l value. before link) (λ host count. before link) (λ node count. before link))
    (λ decides. decision_after P graph v (before link) (λ over. still_not graph (told_view graph v) link (before link))) (before link)

-- so it is in use at its head
or_false : (a b : Bool) → not (a || b) ≡ true → not a ≡ true
or_false true b is = is
or_false false b is = refl

not_known : (known all : List LinkId) (link : ℕ) → Begins known all → not_dropped all link ≡ true → not_dropped known link ≡ true
not_known known all link begins is =
    let test : LinkId → Bool = λ l. l.0 == link in
    or_false (list_any test known) (list_any test begins.0)
    (ap not (sym (list_any-append test known begins.0)) ∙ ap (λ (l : List LinkId). not_dropped l link) begins.1 ∙ is)

pub live_used : (graph : Graph) (past : List Record) → AreDropsKnownFirst graph past → AreLiveNotDropped graph past → AreLiveUsed graph past
live_used graph past first undropped link live =
    let o : List Record = own graph (head_of graph link) past in
    kept_by_drops graph (head_of graph link) o link ∙ not_known (known_drops o) (dropped graph past) link (first (head_of graph link)) (undropped link live)
