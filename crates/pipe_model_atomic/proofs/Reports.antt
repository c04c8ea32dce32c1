-- The controller has reports of links that count, and each is the mark of its link: a report was told, a mark stays, and where links
-- are dropped all reports go.
use Rattle.std.proofs.Common.{◌≡◌, ℕ, ◌==◌, if◌then◌else◌, Bool, true, false, List, ◌∷◌, Option, Some, refl, sym, subst, eqb-true}
use Rattle.std.proofs.lemmas.Bool.{and_parts}
use Rattle.pipe_base.specs.declared.control.Addressed.{Addressed}
use Rattle.pipe_base.specs.declared.control.Control.TheVariants.{Down}
use Rattle.pipe_base.specs.declared.name.LinkId.{LinkId}
use Rattle.pipe_base.specs.declared.name.Ts.{Ts}
use Rattle.pipe_graph.specs.Graph.{Graph, head_of}
use Rattle.pipe_model.specs.declared.record.Record.{Record}
use Rattle.pipe_model.specs.declared.record.Took.TheVariants.{Message}
use Rattle.pipe_model.specs.Acting.{is_own, own}
use Rattle.pipe_model.specs.Controller.{is_live, view}
use Rattle.pipe_model.specs.DownsTold.{HasTold, IsDownTrue}
use Rattle.pipe_model.specs.Marks.{mark}
use Rattle.pipe_model.specs.Run.{IsHistory}
use Rattle.pipe_model.specs.View.{View, intact}
use Rattle.pipe_model.proofs.Marks.{mark_stays}
use Rattle.pipe_model.proofs.Own.{own_more, own_same}
use Rattle.pipe_model_net.proofs.ControlMessages.{taken_message}
use Rattle.pipe_model_net.proofs.Downs.{downs_true}
use Rattle.pipe_model_atomic.specs.ReportsAreMarks.{AreReportsMarks}
use Rattle.pipe_model_atomic.proofs.Views.{decision_after, view_after}

marked_by : (b : Bool) (graph : Graph) (node : ℕ) (past : List Record) (r : Record) (link : ℕ) (value : Ts) → is_own graph node r ≡ b
    → mark (own graph node past) link ≡ Some value → mark (own graph node (r ∷ past)) link ≡ Some value
marked_by true graph node past r link value mine marked =
    subst (λ (o : List Record). mark o link ≡ Some value) (sym (own_more graph node r past mine)) (mark_stays (own graph node past) r link value marked)
marked_by false graph node past r link value other marked =
    subst (λ (o : List Record). mark o link ≡ Some value) (sym (own_same graph node r past other)) marked

-- a report that was told is true, others were before
reported_true : (P : ℕ → Ts → Type 0) (b : Bool) (told link : ℕ) (value known : Ts) (o : Option Ts) → (link == told) ≡ b → P told value
    → (o ≡ Some known → P link known) → (if b then Some value else o) ≡ Some known → P link known
reported_true P true told link value known o same now before is =
    let value_is : value ≡ known = cc in
    subst (λ (n : ℕ). P n known) (sym (eqb-true link told same)) (subst (λ (v : Ts). P told v) value_is now)
reported_true P false told link value known o other now before is = before is

-- by a view the link counts, and it has the mark after a history
abbrev IsTrueFor : Graph → List Record → View → ℕ → Ts → Type 0
IsTrueFor graph past v link value = (v.live link ≡ true) × (mark (own graph (head_of graph link) past) link ≡ Some value)

told_true : (graph : Graph) (past : List Record) (r : Record) (m : Addressed) (link : LinkId) (value : Ts) → IsHistory graph (r ∷ past) → r.took ≡ Message m
    → m.control ≡ Down link value → intact (view graph past) link.0 ≡ true → IsTrueFor graph past (view graph past) link.0 value
told_true graph past r m link value run took down is =
    let told : HasTold (own graph (head_of graph link.0) past) link value m =
    taken_message graph (IsDownTrue graph past) past r m run.1 (downs_true graph past run.0) took link value down in
    ((and_parts (is_live graph past link.0) _ is).0, told.marked)

pub keeps_reports_marks : (graph : Graph) (past : List Record) (r : Record) → IsHistory graph (r ∷ past) → AreReportsMarks graph past → AreReportsMarks graph (r ∷ past)
keeps_reports_marks graph past r run before link value is =
    let v : View = view graph past in
    let P : View → Type 0 = λ w. w.reports link ≡ Some value → IsTrueFor graph past w link value in
    let old : P v = λ known. let at = before link value known in (at.live, at.marked) in
    let now : IsTrueFor graph past (view graph (r ∷ past)) link value =
    view_after P graph r.event r.took r.step.outcome v
    (λ m took. record {
      down = λ told known down whole.
          reported_true (IsTrueFor graph past v) (link == told.0) told.0 link known value (v.reports link) refl (told_true graph past r m told known run took down whole) old;
      done = λ host count told. old;
      gone = λ node count told. old;
    })
    (λ decides. decision_after P graph v old (λ over never. cc)) old is in
    record { live = now.0; marked = marked_by (is_own graph (head_of graph link) r) graph (head_of graph link) past r link value refl now.1 }
