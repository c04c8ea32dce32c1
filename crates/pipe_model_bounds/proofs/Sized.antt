-- Lists and counts fit the network: those that are told begin what was announced or dropped, which names each host or link once.
use Rattle.std.proofs.Common.{◌≡◌, ℕ, ◌<◌, ◌≤◌, ◌==◌, ◌&&◌, nat_lt, if◌then◌else◌, Bool, true, false, List, [], ◌∷◌, ◌++◌, length, filter, refl, inl, inr, sym, subst, eqb-true, arith, le_trans}
use Rattle.std.specs.List.{All}
use Rattle.std.proofs.lemmas.Bool.{and_parts}
use Rattle.std.proofs.lemmas.Bool.Decides.{nat_tests}
use Rattle.std.proofs.lemmas.List.{length-append}
use Rattle.std.proofs.lemmas.List.Elements.{All-nil, All-cons, All-append, All-filter, All-map, All-weaker, filter_passes}
use Rattle.pipe_base.specs.declared.control.Addressed.{Addressed}
use Rattle.pipe_base.specs.declared.control.Announced.{Announced}
use Rattle.pipe_base.specs.declared.control.Control.{Control}
use Rattle.pipe_base.specs.declared.control.Control.TheVariants.{Done, DropLinks, Freeze, Gone, Notice}
use Rattle.pipe_base.specs.declared.name.HostId.{HostId}
use Rattle.pipe_base.specs.declared.name.LinkId.{LinkId}
use Rattle.pipe_base.specs.declared.name.NodeId.{NodeId}
use Rattle.pipe_base.specs.declared.name.Ts.{Ts}
use Rattle.pipe_base.specs.declared.step.Outcome.{Outcome}
use Rattle.pipe_base.specs.declared.step.Outcome.TheVariants.{Ok}
use Rattle.pipe_base.specs.declared.step.Step.{Step}
use Rattle.pipe_base.specs.Step.{quiet_step}
use Rattle.pipe_base.specs.Moment.{Moment, has_link, is_up}
use Rattle.pipe_base.specs.Silence.{goes_down, mark_of}
use Rattle.pipe_graph.specs.Graph.{Graph, all_links, head_of, ins_of}
use Rattle.pipe_graph.proofs.Listed.{listed_below}
use Rattle.pipe_model.specs.declared.event.Event.{Event}
use Rattle.pipe_model.specs.declared.event.Event.TheVariants.{ControlTake, Decide, Tick}
use Rattle.pipe_model.specs.declared.record.Record.{Record}
use Rattle.pipe_model.specs.declared.record.Took.{Took}
use Rattle.pipe_model.specs.declared.record.Took.TheVariants.{Message, Nothing}
use Rattle.pipe_model.specs.Acting.{own}
use Rattle.pipe_model.specs.Controller.{announced, dropped, nobodys_step, view}
use Rattle.pipe_model.specs.Decision.{after_announce, after_decision, after_doom, all_hosts, all_nodes, drop_links, drops, freeze, freezes, is_behind, is_frozen, lags, messages, newly_announced, newly_dead, notice, notices}
use Rattle.pipe_model.specs.Marks.{downed_by, marks, told_marks}
use Rattle.pipe_model.specs.Moments.{known_drops, moments_of, noted_hosts, quiet_calls}
use Rattle.pipe_model.specs.Records.{record_of}
use Rattle.pipe_model.specs.Run.{IsHistory, IsNodeHistory, IsStep}
use Rattle.pipe_model.specs.View.{View}
use Rattle.pipe_model.specs.Waiting.{control_left, waiting_control}
use Rattle.pipe_model.proofs.Own.{node_history, own_more}
use Rattle.pipe_model_node.proofs.MarkedOnce.{marked_once}
use Rattle.pipe_model_net.proofs.Acting.{nobodys_or_own}
use Rattle.pipe_model_net.proofs.ControlMessages.{messages_keep, taken_message}
use Rattle.pipe_model_atomic.specs.ControlTrue.{IsControlTrue}
use Rattle.pipe_model_atomic.specs.CountsTrue.{AreCountsTrue}
use Rattle.pipe_model_atomic.proofs.Times.{begins_shorter}
use Rattle.pipe_model_atomic.proofs.Told.{control_true, keeps_counts_true}
use Rattle.pipe_model_atomic.proofs.Views.{decision_after, told_view}
use Rattle.pipe_model_bounds.specs.Sizes.{AreChangesFew, AreListsSized, IsControlSized, IsNodeSized, IsRecordSized, IsTookSized}
use Rattle.pipe_model_bounds.proofs.Dropped.{announced_hosts, announced_once, decided_links, dropped_links, drops_known, noted_first}
use Rattle.pipe_model_bounds.proofs.Few.{all_last, any_gives, few_below}
use Rattle.pipe_model_bounds.proofs.Told.{told_each}

-- ---- what the controller and the nodes know

dropped_few : (graph : Graph) (past : List Record) → length (dropped graph past) ≤ length graph.links
dropped_few graph past = let all = dropped_links graph past in few_below (λ (l : LinkId). l.0) (length graph.links) (dropped graph past) all.0 all.1

announced_few : (graph : Graph) (past : List Record) → length (announced graph past) ≤ graph.hosts
announced_few graph past = few_below (λ a. a.host.0) graph.hosts (announced graph past) (announced_once graph past) (announced_hosts graph past)

drops_few : (graph : Graph) (past : List Record) → IsHistory graph past → (node : ℕ) → length (known_drops (own graph node past)) ≤ length graph.links
drops_few graph past run node = le_trans (begins_shorter (known_drops (own graph node past)) (dropped graph past) (drops_known graph past run node)) (dropped_few graph past)

noted_few : (graph : Graph) (past : List Record) → IsHistory graph past → (node : ℕ) → length (noted_hosts (own graph node past)) ≤ graph.hosts
noted_few graph past run node = le_trans (begins_shorter (noted_hosts (own graph node past)) (announced graph past) (noted_first graph past run node)) (announced_few graph past)

counts_true : (graph : Graph) (past : List Record) → IsHistory graph past → AreCountsTrue graph past
counts_true graph [] run = record { done = λ host. omega arith; gone = λ node. omega arith }
counts_true graph (r ∷ past) run = keeps_counts_true graph past r run (counts_true graph past run.0)

-- ---- marks are of links

abbrev IsMarkOf : Graph → (LinkId × Ts) → Type 0
IsMarkOf graph m = m.0.0 < length graph.links

told_of : (graph : Graph) (node : ℕ) (moments : List Moment) (control : Control) → All (IsMarkOf graph) (told_marks (ins_of graph node) moments control)
told_of graph node moments (Freeze l) = by (has_link l.0 (ins_of graph node) && is_up moments l.0) refl
  where
    by : (b : Bool) → (has_link l.0 (ins_of graph node) && is_up moments l.0) ≡ b → All (IsMarkOf graph) (if b then mark_of moments l ∷ [] else [])
    by true is =
        All-cons (IsMarkOf graph) (mark_of moments l) []
        (any_gives (λ (k : LinkId). k.0 == l.0) (λ (k : LinkId). k.0 < length graph.links) (l.0 < length graph.links) (ins_of graph node)
        (listed_below (λ (k : LinkId). head_of graph k.0 == node) (length graph.links)) (λ k below same. subst (λ (n : ℕ). n < length graph.links) (eqb-true k.0 l.0 same) below)
        (and_parts (has_link l.0 (ins_of graph node)) (is_up moments l.0) is).0) (All-nil (IsMarkOf graph))
    by false isnt = All-nil (IsMarkOf graph)
told_of graph node moments _ = All-nil (IsMarkOf graph)

downed_of : (graph : Graph) (node : ℕ) (own : List Record) (event : Event) (took : Took) → All (IsMarkOf graph) (downed_by graph node own event took)
downed_of graph node own (Tick n now) took =
    let goes : LinkId → Bool = goes_down graph.patience (moments_of graph node own) (quiet_calls graph node own) now.0 in
    All-map (IsMarkOf graph) (mark_of (moments_of graph node own)) (filter goes (ins_of graph node))
    (All-filter goes (λ (l : LinkId). l.0 < length graph.links) (ins_of graph node) (listed_below (λ (k : LinkId). head_of graph k.0 == node) (length graph.links)))
downed_of graph node own (ControlTake place keep) (Message a) = told_of graph node (moments_of graph node own) a.control
downed_of graph node own _ _ = All-nil (IsMarkOf graph)

marks_of : (graph : Graph) (node : ℕ) (own : List Record) → IsNodeHistory graph node own → All (IsMarkOf graph) (marks own)
marks_of graph node [] history = All-nil (IsMarkOf graph)
marks_of graph node (r ∷ own) history =
    All-append (IsMarkOf graph) (marks own) r.step.downed (marks_of graph node own history.0)
    (subst (All (IsMarkOf graph)) (sym history.1.downed_is) (downed_of graph node own r.event r.took))

node_sized : (graph : Graph) (past : List Record) → IsHistory graph past → (node : ℕ) → IsNodeSized graph (own graph node past)
node_sized graph past run node =
    let o : List Record = own graph node past in
    let history : IsNodeHistory graph node o = node_history graph node past run in
    record {
      marks = few_below (λ (m : LinkId × Ts). m.0.0) (length graph.links) (marks o) (marked_once graph node o history) (marks_of graph node o history);
      drops = drops_few graph past run node;
      noted = noted_few graph past run node;
    }

-- ---- no list that is told is empty

abbrev IsFilled : Control → Type 0
IsFilled (Notice list) = 1 ≤ length list
IsFilled (DropLinks links) = 1 ≤ length links
IsFilled _ = Unit {0}

abbrev IsFilledMessage : Addressed → Type 0
IsFilledMessage m = IsFilled m.control

more_than : (n m : ℕ) → nat_lt n m ≡ true → 1 ≤ m
more_than n m is = let lt : n < m = grind (arith, nat_tests, is) in omega (arith, lt)

decided_filled : (graph : Graph) (v : View) → All IsFilledMessage (messages graph v)
decided_filled graph v =
    let behind : HostId → Bool = λ h. is_behind v h.0 in
    let lagging : NodeId → Bool = λ n. lags graph v n.0 in
    All-append IsFilledMessage (freezes graph v ++ notices graph v) (drops graph v)
    (All-append IsFilledMessage (freezes graph v) (notices graph v)
    (All-map IsFilledMessage (freeze graph) (filter (is_frozen graph v) (all_links graph)) (λ k d lt. tt))
    (All-map IsFilledMessage (notice v) (filter behind (all_hosts graph))
    (All-weaker (λ (h : HostId). behind h ≡ true) (λ (h : HostId). IsFilledMessage (notice v h))
    (λ h is. more_than (v.done h.0) (length v.announced) (and_parts _ (nat_lt (v.done h.0) (length v.announced)) is).1) (filter behind (all_hosts graph)) (filter_passes behind (all_hosts graph)))))
    (All-map IsFilledMessage (drop_links v) (filter lagging (all_nodes graph))
    (All-weaker (λ (n : NodeId). lagging n ≡ true) (λ (n : NodeId). IsFilledMessage (drop_links v n))
    (λ n is. more_than (v.gone n.0) (length v.dropped) (and_parts _ (nat_lt (v.gone n.0) (length v.dropped)) is).1) (filter lagging (all_nodes graph)) (filter_passes lagging (all_nodes graph))))

nobodys_filled : (graph : Graph) (v : View) (event : Event) (outcome : Outcome) → All IsFilledMessage (nobodys_step graph v event outcome).control
nobodys_filled graph v Decide outcome = decided_filled graph (after_decision graph v)
nobodys_filled graph v _ outcome = All-nil IsFilledMessage

puts_filled : (graph : Graph) (past : List Record) (r : Record) → IsStep graph past r → All IsFilledMessage r.step.control
puts_filled graph past r step =
    elim (nobodys_or_own graph r) [
      | inl nobody ↦ subst (λ (s : Step). All IsFilledMessage s.control) (sym (step.nobodys nobody)) (nobodys_filled graph (view graph past) r.event r.step.outcome)
      | inr mine ↦ subst (All IsFilledMessage) (sym (step.node mine.0 mine.1).control_is)
          (told_each IsFilledMessage graph mine.0 (r ∷ own graph mine.0 past) r.event (record { down = λ l value is. tt; done = tt; gone = tt }))
    ]

all_filled : (graph : Graph) (past : List Record) → IsHistory graph past → All IsFilledMessage (waiting_control past)
all_filled graph past run =
    messages_keep graph (λ (before : List Record). IsFilledMessage) (record { stays = λ before r m step filled. filled; starts = λ before r history step. puts_filled graph before r step }) past run

-- ---- control messages

abbrev IsSizedMessage : Graph → Addressed → Type 0
IsSizedMessage graph m = IsControlSized graph m.control

one_sized : (graph : Graph) (past : List Record) → IsHistory graph past → (control : Control) → IsControlTrue graph past control → IsFilled control → IsControlSized graph control
one_sized graph past run (Notice list) holds filled = record { some = filled; few = le_trans (begins_shorter list (announced graph past) holds) (announced_few graph past) }
one_sized graph past run (DropLinks links) holds filled = record { some = filled; few = le_trans (begins_shorter links (dropped graph past) holds) (dropped_few graph past) }
one_sized graph past run (Done host count) holds filled = le_trans holds (noted_few graph past run host.0)
one_sized graph past run (Gone node count) holds filled = le_trans holds (drops_few graph past run node.0)
one_sized graph past run _ holds filled = tt

control_sized : (graph : Graph) (past : List Record) → IsHistory graph past → All (IsSizedMessage graph) (waiting_control past)
control_sized graph past run k d lt =
    one_sized graph past run _ (control_true graph past run k d lt) (all_filled graph past run k d lt)

-- ---- records

took_sized : (graph : Graph) (past : List Record) (r : Record) (t : Took) → IsHistory graph (r ∷ past) → r.took ≡ t → IsTookSized graph t
took_sized graph past r (Message m) run is = taken_message graph (IsSizedMessage graph) past r m run.1 (control_sized graph past run.0) is
took_sized graph past r _ run is = tt

last_shorter : {A : Type 0} (xs ys : List A) (most : ℕ) → length (xs ++ ys) ≤ most → length ys ≤ most
last_shorter xs ys most few = omega (arith, length-append xs ys, few)

nobodys_few : (graph : Graph) (v : View) (event : Event) (outcome : Outcome) → length (v.announced ++ newly_announced graph (after_doom graph v)) ≤ graph.hosts
    → length (v.dropped ++ newly_dead graph (after_announce graph (after_doom graph v))) ≤ length graph.links → AreChangesFew graph (nobodys_step graph v event outcome)
nobodys_few graph v Decide outcome hosts links = record {
  downed = omega arith;
  dropped = last_shorter v.dropped (newly_dead graph (after_announce graph (after_doom graph v))) (length graph.links) links;
  noted = last_shorter v.announced (newly_announced graph (after_doom graph v)) graph.hosts hosts;
}
nobodys_few graph v _ outcome hosts links = record { downed = omega arith; dropped = omega arith; noted = omega arith }

-- what a decision would announce now, with what was announced
announced_now : (graph : Graph) (past : List Record) → length (told_view graph (view graph past)).announced ≤ graph.hosts
announced_now graph past =
    let v : View = view graph past in
    let same : (after_decision graph v).announced ≡ (told_view graph v).announced =
    decision_after (λ w. w.announced ≡ (told_view graph v).announced) graph v refl (λ over. refl) in
    subst (λ (list : List Announced). length list ≤ graph.hosts) same (announced_few graph (record_of Decide Nothing (quiet_step Ok) ∷ past))

decision_few : (graph : Graph) (past : List Record) (r : Record) → AreChangesFew graph (nobodys_step graph (view graph past) r.event r.step.outcome)
decision_few graph past r =
    let v : View = view graph past in
    let links = decided_links graph past in
    nobodys_few graph v r.event r.step.outcome (announced_now graph past)
    (few_below (λ (l : LinkId). l.0) (length graph.links) (v.dropped ++ newly_dead graph (told_view graph v)) links.0 links.1)

changes_few : (graph : Graph) (past : List Record) (r : Record) → IsHistory graph (r ∷ past) → AreChangesFew graph r.step
changes_few graph past r run =
    elim (nobodys_or_own graph r) [
      | inl nobody ↦ subst (AreChangesFew graph) (sym (run.1.nobodys nobody)) (decision_few graph past r)
      | inr mine ↦
          let o : List Record = own graph mine.0 past in
          let sized : IsNodeSized graph (r ∷ o) = subst (IsNodeSized graph) (own_more graph mine.0 r past mine.1) (node_sized graph (r ∷ past) run mine.0) in
          record {
            downed = last_shorter (marks o) r.step.downed (length graph.links) sized.marks;
            dropped = last_shorter (known_drops o) r.step.dropped (length graph.links) sized.drops;
            noted = last_shorter (noted_hosts o) r.step.noted graph.hosts sized.noted;
          }
    ]

records_sized : (graph : Graph) (past : List Record) → IsHistory graph past → All (IsRecordSized graph) past
records_sized graph [] run = All-nil (IsRecordSized graph)
records_sized graph (r ∷ past) run =
    All-cons (IsRecordSized graph) r past (record {
      took = took_sized graph past r r.took run refl;
      control = all_last (IsSizedMessage graph) (control_left r.event r.step.outcome (waiting_control past)) r.step.control (control_sized graph (r ∷ past) run);
      changes = changes_few graph past r run;
    }) (records_sized graph past run.0)

pub lists_sized : (graph : Graph) (past : List Record) → IsHistory graph past → AreListsSized graph past
lists_sized graph past run =
    let counts = counts_true graph past run in
    record {
      control = control_sized graph past run;
      records = records_sized graph past run;
      nodes = node_sized graph past run;
      announced = announced_few graph past;
      dropped = dropped_few graph past;
      done = λ host. le_trans (counts.done host) (noted_few graph past run host);
      gone = λ node. le_trans (counts.gone node) (drops_few graph past run node);
    }
