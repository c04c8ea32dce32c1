-- Lemmas on what the controller knows.
use Rattle.std.proofs.Common.{◌≡◌, inl, inr, ℕ, ◌-◌, ◌<◌, ◌==◌, nat_lt, Bool, true, false, if◌then◌else◌, List, [], ◌++◌, length, set, replicate, get_or, Option, None, Some, refl, sym, ap, ◌∙◌, arith}
use Rattle.std.proofs.lemmas.Bool.{le-ltb, lt-ltb}
use Rattle.std.proofs.lemmas.Bool.Decides.{eqb_tells, leb_tells}
use Rattle.std.proofs.lemmas.List.{get_or_append_left, get_or-append_right, get_or-replicate, get_or-set_same, get_or-set_other, get_or_past, length-replicate}
use Rattle.pipe_base.specs.declared.name.LinkId.{LinkId}
use Rattle.pipe_base.specs.declared.name.Ts.{Ts}
use Rattle.pipe_base.specs.declared.step.Outcome.TheVariants.{Ok}
use Rattle.pipe_base.specs.declared.step.Step.{Step}
use Rattle.pipe_graph.specs.Graph.{Graph}
use Rattle.pipe_graph.specs.Reported.{unreported}
use Rattle.pipe_base.specs.Step.{quiet_step}
use Rattle.pipe_control.specs.declared.controller.Controller.{Controller}
use Rattle.pipe_control.specs.declared.controller.Decision.{Decision}
use Rattle.pipe_control.specs.Known.{IsDecision, count_of, reports_with, view_of}
use Rattle.pipe_model.specs.Controller.{decision}
use Rattle.pipe_model.specs.Decision.{after_announce, after_decision, after_doom, after_drop, messages, newly_announced, newly_dead}
use Rattle.pipe_model.specs.View.{View, first_view, intact, with_report}
use Rattle.pipe_topo.specs.Reports.{report_of}
use Rattle.pipe_topo.specs.Sets.{has}

-- a list of one value answers it past its end too, where it is the answer there
pub one_value : {A : Type 0} (count n : ℕ) (x : A) → get_or (replicate count x) n x ≡ x
one_value count n x = elim (leb_tells count n) [
  | inl past ↦ let le = past.1 in let size = length-replicate count x in get_or_past (replicate count x) n x (omega (arith, le, size))
  | inr inside ↦ get_or-replicate count n x x inside.1
]

pub all_ones : (count n : ℕ) → has (replicate count true) n ≡ nat_lt n count
all_ones count n = elim (leb_tells count n) [
  | inl past ↦
      let le = past.1 in let size = length-replicate count true in
      get_or_past (replicate count true) n false (omega (arith, le, size)) ∙ sym (le-ltb n count le)
  | inr inside ↦ get_or-replicate count n true false inside.1 ∙ sym (lt-ltb n count inside.1)
]

pub first_ones : (count others n : ℕ) → has (replicate count true ++ replicate others false) n ≡ nat_lt n count
first_ones count others n = elim (leb_tells count n) [
  | inl above ↦
      get_or-append_right (replicate count true) (replicate others false) count n false (length-replicate count true) above.1
      ∙ one_value others (n - count) false ∙ sym (le-ltb n count above.1)
  | inr below ↦
      let lt = below.1 in let size = length-replicate count true in
      get_or_append_left (replicate count true) (replicate others false) false n (omega (arith, lt, size))
      ∙ get_or-replicate count n true false lt ∙ sym (lt-ltb n count lt)
]

pub first_known : (graph : Graph) (k : Controller) (links hosts others nodes : ℕ) → k.members ≡ replicate hosts true ++ replicate others false → k.live ≡ replicate links true
    → k.reports ≡ replicate links None → k.doomed ≡ replicate 64 false → k.announced ≡ [] → k.dropped ≡ [] → k.done ≡ replicate 64 0 → k.gone ≡ replicate nodes 0
    → links ≡ length graph.links → hosts ≡ graph.hosts → view_of k ≡ first_view graph
first_known graph k links hosts others nodes members live reports doomed announced dropped done gone all few = λ i. record {
  members = λ n. (ap (λ (xs : List Bool). has xs n) members ∙ first_ones hosts others n ∙ ap (λ (m : ℕ). nat_lt n m) few) i;
  live = λ n. (ap (λ (xs : List Bool). has xs n) live ∙ all_ones links n ∙ ap (λ (m : ℕ). nat_lt n m) all) i;
  reports = λ n. (ap (λ (xs : List (Option Ts)). report_of xs n) reports ∙ one_value links n None) i;
  doomed = λ n. (ap (λ (xs : List Bool). has xs n) doomed ∙ one_value 64 n false) i;
  announced = announced i;
  dropped = dropped i;
  done = λ n. (ap (λ (xs : List ℕ). count_of xs n) done ∙ one_value 64 n 0) i;
  gone = λ n. (ap (λ (xs : List ℕ). count_of xs n) gone ∙ one_value nodes n 0) i;
}

pub set_report : (reports : List (Option Ts)) (link : LinkId) (value : Ts) → link.0 < length reports
    → report_of (set reports link.0 (Some value)) ≡ (λ (l : ℕ). if l == link.0 then Some value else report_of reports l)
set_report reports link value lt = λ i l. at l i
  where
    at : (l : ℕ) → report_of (set reports link.0 (Some value)) l ≡ (if l == link.0 then Some value else report_of reports l)
    at l = elim (eqb_tells l link.0) [
      | inl same ↦
          ap (λ (m : ℕ). report_of (set reports link.0 (Some value)) m) same.1 ∙ get_or-set_same reports link.0 (Some value) None lt
          ∙ sym (ap (λ (b : Bool). if b then Some value else report_of reports l) same.0)
      | inr other ↦
          get_or-set_other reports link.0 l (Some value) None other.1
          ∙ sym (ap (λ (b : Bool). if b then Some value else report_of reports l) other.0)
    ]

pub note_counts : (live : ℕ → Bool) (reports : List (Option Ts)) (link : LinkId) (value : Ts) → link.0 < length reports → unreported live (report_of reports) link.0 ≡ true
    → report_of (set reports link.0 (Some value)) ≡ reports_with live link value (report_of reports)
note_counts live reports link value lt is =
    set_report reports link value lt
    ∙ sym (ap (λ (b : Bool). if b then (λ (l : ℕ). if l == link.0 then Some value else report_of reports l) else report_of reports) is)

pub note_idle : (live : ℕ → Bool) (reports : List (Option Ts)) (link : LinkId) (value : Ts) → unreported live (report_of reports) link.0 ≡ false
    → report_of reports ≡ reports_with live link value (report_of reports)
note_idle live reports link value isnt =
    sym (ap (λ (b : Bool). if b then (λ (l : ℕ). if l == link.0 then Some value else report_of reports l) else report_of reports) isnt)

pub report_known : (k : Controller) (reports : List (Option Ts)) (link : LinkId) (value : Ts) → report_of reports ≡ reports_with (has k.live) link value (report_of k.reports)
    → record (view_of k) { reports = report_of reports } ≡ with_report link value (view_of k)
report_known k reports link value is = ap (λ (r : ℕ → Option Ts). record (view_of k) { reports = r }) is ∙ pick (intact (view_of k) link.0)
  where
    pick : (b : Bool) → record (view_of k) { reports = if b then (λ (l : ℕ). if l == link.0 then Some value else report_of k.reports l) else report_of k.reports }
        ≡ (if b then record (view_of k) { reports = λ (l : ℕ). if l == link.0 then Some value else report_of k.reports l } else view_of k)
    pick true = refl
    pick false = refl

-- the three points of a decision, one after the other
pub after_three : (graph : Graph) (v : View) (k one two three : Controller) → view_of k ≡ v → view_of one ≡ after_doom graph (view_of k)
    → view_of two ≡ after_announce graph (view_of one) → view_of three ≡ after_drop graph (view_of two) → view_of three ≡ after_decision graph v
after_three graph v k one two three known first second last =
    last ∙ ap (after_drop graph) (second ∙ ap (after_announce graph) (first ∙ ap (after_doom graph) known))

pub decides : (graph : Graph) (v : View) (k one two three : Controller) (d : Decision) → view_of k ≡ v → view_of one ≡ after_doom graph (view_of k)
    → view_of two ≡ after_announce graph (view_of one) → view_of three ≡ after_drop graph (view_of two) → d.announced ≡ newly_announced graph (view_of one)
    → d.dropped ≡ newly_dead graph (view_of two) → d.put ≡ messages graph (view_of three) → IsDecision graph v d
decides graph v k one two three d known first second last news dead put_is =
    let doomed = first ∙ ap (after_doom graph) known in
    record {
      announced = news ∙ ap (newly_announced graph) doomed;
      dropped = dead ∙ ap (newly_dead graph) (second ∙ ap (after_announce graph) doomed);
      put = put_is ∙ ap (messages graph) (after_three graph v k one two three known first second last);
    }

-- the step of a decision
pub step_is : (graph : Graph) (v : View) (d : Decision) (s : Step) → s ≡ quiet_step Ok → IsDecision graph v d
    → record s { noted = d.announced; dropped = d.dropped; control = d.put } ≡ decision graph v
step_is graph v d s quiet rules = λ i. record (quiet i) { noted = rules.announced i; dropped = rules.dropped i; control = rules.put i }
