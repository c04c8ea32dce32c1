-- Control messages that wait are true, and so are the counts that the controller keeps: lists are told from the first item on, and
-- what a node has come to know only grows.
use Rattle.std.proofs.Common.{◌≡◌, ℕ, ◌≤◌, ◌==◌, ◌&&◌, if◌then◌else◌, max, nat_lt, not, Bool, true, false, List, [], ◌∷◌, ◌++◌, length, Option, None, Some, filter, refl, inl, inr, sym, subst, ap, arith, le_trans, eqb-true}
use Rattle.std.specs.Prelude.{flat_map}
use Rattle.std.specs.List.{All}
use Rattle.std.proofs.lemmas.List.Elements.{All-append, All-cons, All-nil, All-weaker}
use Rattle.pipe_base.specs.declared.control.Addressed.{Addressed}
use Rattle.pipe_base.specs.declared.control.Control.{Control}
use Rattle.pipe_base.specs.declared.control.Control.TheVariants.{Done, DropLinks, Freeze, Gone, Notice}
use Rattle.pipe_base.specs.declared.name.HostId.{HostId}
use Rattle.pipe_base.specs.declared.name.LinkId.{LinkId}
use Rattle.pipe_base.specs.declared.name.NodeId.{NodeId}
use Rattle.pipe_base.specs.declared.name.Ts.{Ts}
use Rattle.pipe_base.specs.declared.step.Outcome.{Outcome}
use Rattle.pipe_base.specs.declared.step.Step.{Step}
use Rattle.pipe_graph.specs.Graph.{Graph, ins_of, is_host}
use Rattle.pipe_base.specs.Settled.{is_recalling}
use Rattle.pipe_graph.specs.Passable.{not_dropped}
use Rattle.pipe_model.specs.declared.event.Event.{Event}
use Rattle.pipe_model.specs.declared.event.Event.TheVariants.{Decide, Tick}
use Rattle.pipe_model.specs.declared.record.Record.{Record}
use Rattle.pipe_model.specs.declared.record.Took.{Took}
use Rattle.pipe_model.specs.declared.record.Took.TheVariants.{Message}
use Rattle.pipe_model.specs.Acting.{is_own, own}
use Rattle.pipe_model.specs.Controller.{after_event, announced, dropped, nobodys_step, view}
use Rattle.pipe_model.specs.Decision.{after_decision}
use Rattle.pipe_model.specs.Duties.{control_of, done_told, down_told, downs_told, gone_told}
use Rattle.pipe_model.specs.Marks.{mark}
use Rattle.pipe_model.specs.Moments.{known_drops, noted_hosts}
use Rattle.pipe_model.specs.Run.{IsHistory, IsStep}
use Rattle.pipe_model.specs.Sender.{sender_calls}
use Rattle.pipe_model.specs.View.{View}
use Rattle.pipe_model.proofs.Decisions.{messages_each}
use Rattle.pipe_model.proofs.Own.{own_more, own_same}
use Rattle.pipe_model_net.proofs.Acting.{nobodys_or_own}
use Rattle.pipe_model_net.proofs.ControlMessages.{messages_keep, taken_message}
use Rattle.pipe_model_atomic.specs.Begins.{Begins}
use Rattle.pipe_model_atomic.specs.ControlTrue.{IsControlAllTrue, IsControlTrue}
use Rattle.pipe_model_atomic.specs.CountsTrue.{AreCountsTrue}
use Rattle.pipe_model_atomic.proofs.Times.{begins_more, begins_same, begins_shorter}
use Rattle.pipe_model_atomic.proofs.Views.{announced_more, decision_after, drops_more, view_after}

-- ---- what a node has come to know only grows

noted_by : (b : Bool) (graph : Graph) (past : List Record) (r : Record) (node : ℕ) → is_own graph node r ≡ b
    → Begins (noted_hosts (own graph node past)) (noted_hosts (own graph node (r ∷ past)))
noted_by true graph past r node mine =
    subst (λ (o : List Record). Begins (noted_hosts (own graph node past)) (noted_hosts o)) (sym (own_more graph node r past mine)) (r.step.noted, refl)
noted_by false graph past r node other =
    subst (λ (o : List Record). Begins (noted_hosts (own graph node past)) (noted_hosts o)) (sym (own_same graph node r past other)) (begins_same (noted_hosts (own graph node past)))

pub noted_more : (graph : Graph) (past : List Record) (r : Record) (node : ℕ) → Begins (noted_hosts (own graph node past)) (noted_hosts (own graph node (r ∷ past)))
noted_more graph past r node = noted_by (is_own graph node r) graph past r node refl

known_by : (b : Bool) (graph : Graph) (past : List Record) (r : Record) (node : ℕ) → is_own graph node r ≡ b
    → Begins (known_drops (own graph node past)) (known_drops (own graph node (r ∷ past)))
known_by true graph past r node mine =
    subst (λ (o : List Record). Begins (known_drops (own graph node past)) (known_drops o)) (sym (own_more graph node r past mine)) (r.step.dropped, refl)
known_by false graph past r node other =
    subst (λ (o : List Record). Begins (known_drops (own graph node past)) (known_drops o)) (sym (own_same graph node r past other)) (begins_same (known_drops (own graph node past)))

noted_longer : (graph : Graph) (past : List Record) (r : Record) (node : ℕ) → length (noted_hosts (own graph node past)) ≤ length (noted_hosts (own graph node (r ∷ past)))
noted_longer graph past r node = begins_shorter (noted_hosts (own graph node past)) (noted_hosts (own graph node (r ∷ past))) (noted_more graph past r node)

known_longer : (graph : Graph) (past : List Record) (r : Record) (node : ℕ) → length (known_drops (own graph node past)) ≤ length (known_drops (own graph node (r ∷ past)))
known_longer graph past r node = begins_shorter (known_drops (own graph node past)) (known_drops (own graph node (r ∷ past))) (known_by (is_own graph node r) graph past r node refl)

-- so what is true stays true
control_stays : (graph : Graph) (past : List Record) (r : Record) (control : Control) → IsControlTrue graph past control → IsControlTrue graph (r ∷ past) control
control_stays graph past r (Notice list) holds = begins_more list (announced graph past) (announced graph (r ∷ past)) holds (announced_more graph past r)
control_stays graph past r (DropLinks list) holds = begins_more list (dropped graph past) (dropped graph (r ∷ past)) holds (drops_more graph past r)
control_stays graph past r (Done host count) holds = le_trans holds (noted_longer graph past r host.0)
control_stays graph past r (Gone node count) holds = le_trans holds (known_longer graph past r node.0)
control_stays graph past r _ holds = tt

-- ---- what a decision tells

-- true for a view: a list that what it has begins with, or a freeze
abbrev IsDecided : View → Control → Type 0
IsDecided v (Notice list) = Begins list v.announced
IsDecided v (DropLinks list) = Begins list v.dropped
IsDecided v (Freeze link) = Unit {0}
IsDecided v _ = ⊥

decided_true : (graph : Graph) (past : List Record) (control : Control) → IsDecided (view graph past) control → IsControlTrue graph past control
decided_true graph past (Notice list) holds = holds
decided_true graph past (DropLinks list) holds = holds
decided_true graph past (Freeze link) holds = tt
decided_true graph past _ holds = absurd holds

nobody_tells : (graph : Graph) (v : View) (event : Event) (took : Took) (outcome : Outcome)
    → All (λ m. IsDecided (after_event graph event took outcome v) m.control) (nobodys_step graph v event outcome).control
nobody_tells graph v Decide took outcome =
    let w : View = after_decision graph v in
    messages_each (λ (m : Addressed). IsDecided w m.control) graph w (λ (l : LinkId). tt) (λ (h : HostId). begins_same w.announced) (λ (n : NodeId). begins_same w.dropped)
nobody_tells graph v event took outcome = All-nil (λ (m : Addressed). IsDecided (after_event graph event took outcome v) m.control)

-- ---- what a node tells

-- true for a node: a mark, or how much it has come to know
abbrev IsNodes : ℕ → List Record → Control → Type 0
IsNodes node own (Done host count) = (host.0 ≡ node) × (count ≤ length (noted_hosts own))
IsNodes node own (Gone other count) = (other.0 ≡ node) × (count ≤ length (known_drops own))
IsNodes node own (Notice list) = ⊥
IsNodes node own (DropLinks list) = ⊥
IsNodes node own _ = Unit {0}

nodes_true : (graph : Graph) (past : List Record) (node : ℕ) (control : Control) → IsNodes node (own graph node past) control → IsControlTrue graph past control
nodes_true graph past node (Done host count) is = subst (λ (n : ℕ). count ≤ length (noted_hosts (own graph n past))) (sym is.0) is.1
nodes_true graph past node (Gone other count) is = subst (λ (n : ℕ). count ≤ length (known_drops (own graph n past))) (sym is.0) is.1
nodes_true graph past node (Notice list) is = absurd is
nodes_true graph past node (DropLinks list) is = absurd is
nodes_true graph past node _ is = tt

abbrev IsNodesTold : ℕ → List Record → Addressed → Type 0
IsNodesTold node own m = IsNodes node own m.control

down_tells : (node : ℕ) (own : List Record) (l : LinkId) (o : Option Ts) → All (IsNodesTold node own) (down_told l o)
down_tells node own l None = All-nil (IsNodesTold node own)
down_tells node own l (Some value) = All-cons (IsNodesTold node own) _ [] tt (All-nil (IsNodesTold node own))

downs_tell : (node : ℕ) (own : List Record) (ls : List LinkId) → All (IsNodesTold node own) (flat_map (λ l. down_told l (mark own l.0)) ls)
downs_tell node own [] = All-nil (IsNodesTold node own)
downs_tell node own (l ∷ ls) =
    All-append (IsNodesTold node own) (down_told l (mark own l.0)) (flat_map (λ k. down_told k (mark own k.0)) ls) (down_tells node own l (mark own l.0)) (downs_tell node own ls)

one_or_none : (P : Addressed → Type 0) (b : Bool) (m : Addressed) → P m → All P (if b then m ∷ [] else [])
one_or_none P true m holds = All-cons P m [] holds (All-nil P)
one_or_none P false m holds = All-nil P

node_tells : (graph : Graph) (node : ℕ) (own : List Record) (event : Event) → All (IsNodesTold node own) (control_of graph node own event)
node_tells graph node own (Tick n now) =
    let P : Addressed → Type 0 = IsNodesTold node own in
    All-append P (downs_told graph node own ++ done_told graph node own) (gone_told node own)
    (All-append P (downs_told graph node own) (done_told graph node own)
    (downs_tell node own (filter (λ l. not_dropped (known_drops own) l.0) (ins_of graph node)))
    (one_or_none P (is_host graph node && (nat_lt 0 (length (noted_hosts own)) && not (is_recalling (sender_calls graph node own)))) _ (refl, omega arith)))
    (one_or_none P (nat_lt 0 (length (known_drops own))) _ (refl, omega arith))
node_tells graph node own _ = All-nil (IsNodesTold node own)

-- ---- all that waits

abbrev IsTrueAt : Graph → List Record → Addressed → Type 0
IsTrueAt graph past m = IsControlTrue graph past m.control

nobody_true : (graph : Graph) (past : List Record) (r : Record) → All (IsTrueAt graph (r ∷ past)) (nobodys_step graph (view graph past) r.event r.step.outcome).control
nobody_true graph past r =
    All-weaker (λ (m : Addressed). IsDecided (view graph (r ∷ past)) m.control) (IsTrueAt graph (r ∷ past)) (λ (m : Addressed) is. decided_true graph (r ∷ past) m.control is)
    (nobodys_step graph (view graph past) r.event r.step.outcome).control (nobody_tells graph (view graph past) r.event r.took r.step.outcome)

own_true : (graph : Graph) (past : List Record) (r : Record) (node : ℕ) → is_own graph node r ≡ true
    → All (IsTrueAt graph (r ∷ past)) (control_of graph node (r ∷ own graph node past) r.event)
own_true graph past r node mine =
    let o : List Record = own graph node (r ∷ past) in
    subst (λ (x : List Record). All (IsTrueAt graph (r ∷ past)) (control_of graph node x r.event)) (own_more graph node r past mine)
    (All-weaker (IsNodesTold node o) (IsTrueAt graph (r ∷ past)) (λ (m : Addressed) is. nodes_true graph (r ∷ past) node m.control is)
    (control_of graph node o r.event) (node_tells graph node o r.event))

puts_true : (graph : Graph) (past : List Record) (r : Record) → IsStep graph past r → All (IsTrueAt graph (r ∷ past)) r.step.control
puts_true graph past r step =
    elim (nobodys_or_own graph r) [
      | inl nobody ↦ subst (All (IsTrueAt graph (r ∷ past))) (sym (ap (λ (s : Step). s.control) (step.nobodys nobody))) (nobody_true graph past r)
      | inr mine ↦ subst (All (IsTrueAt graph (r ∷ past))) (sym (step.node mine.0 mine.1).control_is) (own_true graph past r mine.0 mine.1)
    ]

pub control_true : (graph : Graph) (past : List Record) → IsHistory graph past → IsControlAllTrue graph past
control_true graph past run =
    messages_keep graph (IsTrueAt graph)
    (record { stays = λ before r m step holds. control_stays graph before r m.control holds; starts = λ before r history step. puts_true graph before r step }) past run

-- so is what is taken
pub taken_true : (graph : Graph) (past : List Record) (r : Record) (m : Addressed) → IsHistory graph (r ∷ past) → r.took ≡ Message m → IsControlTrue graph past m.control
taken_true graph past r m run took = taken_message graph (IsTrueAt graph past) past r m run.1 (control_true graph past run.0) took

-- ---- the counts of the controller

count_by : (b : Bool) (number other count : ℕ) (counts : ℕ → ℕ) (known : ℕ → ℕ) → (number == other) ≡ b → counts number ≤ known number → count ≤ known other
    → (if b then max (counts number) count else counts number) ≤ known number
count_by true number other count counts known same before told = let at : known number ≡ known other = ap known (eqb-true number other same) in omega (arith, before, told, at)
count_by false number other count counts known apart before told = before

done_true : (graph : Graph) (past : List Record) (r : Record) (host : ℕ) → IsHistory graph (r ∷ past) → (view graph past).done host ≤ length (noted_hosts (own graph host past))
    → (view graph (r ∷ past)).done host ≤ length (noted_hosts (own graph host past))
done_true graph past r host run before =
    let v : View = view graph past in
    let known : ℕ → ℕ = λ n. length (noted_hosts (own graph n past)) in
    let P : View → Type 0 = λ w. w.done host ≤ known host in
    view_after P graph r.event r.took r.step.outcome v
    (λ m took. record {
      down = λ link value told whole. before;
      done = λ other count told.
          count_by (host == other.0) host other.0 count v.done known refl before (subst (IsControlTrue graph past) told (taken_true graph past r m run took));
      gone = λ node count told. before;
    })
    (λ decides. decision_after P graph v before (λ over. before)) before

gone_true : (graph : Graph) (past : List Record) (r : Record) (node : ℕ) → IsHistory graph (r ∷ past) → (view graph past).gone node ≤ length (known_drops (own graph node past))
    → (view graph (r ∷ past)).gone node ≤ length (known_drops (own graph node past))
gone_true graph past r node run before =
    let v : View = view graph past in
    let known : ℕ → ℕ = λ n. length (known_drops (own graph n past)) in
    let P : View → Type 0 = λ w. w.gone node ≤ known node in
    view_after P graph r.event r.took r.step.outcome v
    (λ m took. record {
      down = λ link value told whole. before;
      done = λ host count told. before;
      gone = λ other count told.
          count_by (node == other.0) node other.0 count v.gone known refl before (subst (IsControlTrue graph past) told (taken_true graph past r m run took));
    })
    (λ decides. decision_after P graph v before (λ over. before)) before

pub keeps_counts_true : (graph : Graph) (past : List Record) (r : Record) → IsHistory graph (r ∷ past) → AreCountsTrue graph past → AreCountsTrue graph (r ∷ past)
keeps_counts_true graph past r run before = record {
  done = λ host. le_trans (done_true graph past r host run (before.done host)) (noted_longer graph past r host);
  gone = λ node. le_trans (gone_true graph past r node run (before.gone node)) (known_longer graph past r node);
}
