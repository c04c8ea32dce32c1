-- All numbers of a run are within the clock: what waits is, so what is taken is, so what each node and the controller do is.
use Rattle.std.proofs.Common.{◌≡◌, ℕ, zero, suc, ◌==◌, ◌&&◌, max, nat_lt, if◌then◌else◌, Bool, true, false, List, [], ◌∷◌, ◌++◌, length, Option, None, Some, refl, inl, inr, sym, subst, arith}
use Rattle.std.specs.Prelude.{slice_get}
use Rattle.std.specs.List.{All, remove}
use Rattle.std.proofs.lemmas.List.Elements.{All-nil, All-cons, All-head, All-tail, All-append, All-weaker}
use Rattle.pipe_base.specs.declared.control.Addressed.{Addressed}
use Rattle.pipe_base.specs.declared.control.Announced.{Announced}
use Rattle.pipe_base.specs.declared.control.To.{To}
use Rattle.pipe_base.specs.declared.control.To.TheVariants.{Node}
use Rattle.pipe_base.specs.declared.name.HostId.{HostId}
use Rattle.pipe_base.specs.declared.name.LinkId.{LinkId}
use Rattle.pipe_base.specs.declared.name.NodeId.{NodeId}
use Rattle.pipe_base.specs.declared.name.Ts.{Ts}
use Rattle.pipe_base.specs.declared.packet.Packet.{Packet}
use Rattle.pipe_base.specs.declared.step.Outcome.{Outcome}
use Rattle.pipe_base.specs.declared.step.Outcome.TheVariants.{Crashed, NoItem, Ok}
use Rattle.pipe_graph.specs.FailureTime.{failure_time, fed_report, later, latest_below}
use Rattle.pipe_graph.specs.Reach.{feeds}
use Rattle.pipe_graph.specs.Graph.{Graph, head_of}
use Rattle.pipe_model.specs.declared.event.Event.{Event}
use Rattle.pipe_model.specs.declared.event.Event.TheVariants.{ControlLose, ControlTake, Crash, Decide, Lose, Send, Take, Tick}
use Rattle.pipe_model.specs.declared.record.Record.{Record}
use Rattle.pipe_model.specs.declared.record.Took.{Took}
use Rattle.pipe_model.specs.declared.record.Took.TheVariants.{Link, Message}
use Rattle.pipe_model.specs.Acting.{is_own, own}
use Rattle.pipe_model.specs.Controller.{nobodys_step, view}
use Rattle.pipe_model.specs.Decision.{after_doom, newly_announced}
use Rattle.pipe_model.specs.Moments.{received}
use Rattle.pipe_model.specs.NeverLate.{AreOfGraph}
use Rattle.pipe_model.specs.Outcome.{has_crashed, message_outcome, outcome_at, outcome_of, outcome_to}
use Rattle.pipe_model.specs.OwnOutcome.{own_outcome}
use Rattle.pipe_model.specs.Packets.{receipts, with_receipt}
use Rattle.pipe_model.specs.Event.{IsOfGraph}
use Rattle.pipe_model.specs.Run.{IsHistory, IsStep}
use Rattle.pipe_model.specs.View.{View}
use Rattle.pipe_model.specs.Waiting.{control_left, is_cut, is_ok, left_after, put_on, takes_out, waiting_control, waiting_on}
use Rattle.pipe_model.proofs.Decisions.{nobodys_control}
use Rattle.pipe_model.proofs.Own.{own_more, own_same}
use Rattle.pipe_model_net.proofs.Acting.{nobodys_or_own}
use Rattle.pipe_model_net.proofs.ControlMessages.{taken_message}
use Rattle.pipe_model_net.proofs.Packets.{at_place, chosen, left_all, put_all, removed, took_waited}
use Rattle.pipe_model_atomic.proofs.Announcing.{IsGoing, newly_going}
use Rattle.pipe_model_atomic.proofs.Views.{decision_after, told_view, view_after}
use Rattle.pipe_model_bounds.specs.Numbers.{AreNumbersWithin, IsControlWithin, IsOutcomeWithin, IsPacketWithin, IsRecordWithin, IsStepWithin, IsTimeWithin, IsTookWithin, IsWithin}
use Rattle.pipe_model_bounds.proofs.NodeNumbers.{IsMessageWithin, Knows, knows_more, knows_none, node_within, outcome_in, received_in, step_within}

-- ---- what the controller knows

abbrev AreReportsIn : ℕ → (ℕ → Option Ts) → Type 0
AreReportsIn top reports = (link : ℕ) (value : Ts) → reports link ≡ Some value → IsWithin top value

abbrev IsViewIn : ℕ → View → Type 0
IsViewIn top v = All (IsTimeWithin top) v.announced × AreReportsIn top v.reports

later_in : (top : ℕ) (a b : Option Ts) (time : Ts) → ((t : Ts) → a ≡ Some t → IsWithin top t) → ((t : Ts) → b ≡ Some t → IsWithin top t) → later a b ≡ Some time → IsWithin top time
later_in top None b time one other is = other time is
later_in top (Some x) None time one other is = one time is
later_in top (Some x) (Some y) time one other is =
    let same : max x.0 y.0 ≡ time.0 = cc in
    let first = one x refl in let second = other y refl in omega (arith, same, first, second)

latest_in : (top : ℕ) (time : ℕ → Option Ts) (n : ℕ) (last : Ts) → AreReportsIn top time → latest_below time n ≡ Some last → IsWithin top last
latest_in top time zero last within is = cc
latest_in top time (suc n) last within is =
    later_in top (latest_below time n) (time n) last (λ t at. latest_in top time n t within at) (λ t at. within n t at) is

where_fed : (b : Bool) (o : Option Ts) (t : Ts) → (if b then o else None) ≡ Some t → o ≡ Some t
where_fed true o t is = is
where_fed false o t is = cc

failure_in : (top : ℕ) (graph : Graph) (live : ℕ → Bool) (reports : ℕ → Option Ts) (host : ℕ) (time : Ts) → AreReportsIn top reports
    → failure_time graph live reports host ≡ Some time → IsWithin top time
failure_in top graph live reports host time within is =
    latest_in top (fed_report graph live reports host) (length graph.links) time
    (λ link value at. within link value (where_fed (live link && feeds graph live host link) (reports link) value at)) is

newly_in : (top : ℕ) (graph : Graph) (v : View) → AreReportsIn top v.reports → All (IsTimeWithin top) (newly_announced graph v)
newly_in top graph v within =
    All-weaker (λ (a : Announced). IsGoing graph v a.host.0 a.time) (IsTimeWithin top) (λ a going. failure_in top graph v.live v.reports a.host.0 a.time within going.time_is)
    (newly_announced graph v) (newly_going graph v)

one_report : (b : Bool) (top : ℕ) (value told : Ts) (o : Option Ts) → IsWithin top told → (o ≡ Some value → IsWithin top value) → (if b then Some told else o) ≡ Some value → IsWithin top value
one_report true top value told o new old is = let same : told ≡ value = cc in subst (IsWithin top) same new
one_report false top value told o new old is = old is

view_in : (graph : Graph) (past : List Record) (r : Record) → IsTookWithin graph.top r.took → IsViewIn graph.top (view graph past) → IsViewIn graph.top (view graph (r ∷ past))
view_in graph past r took before =
    let v : View = view graph past in
    let P : View → Type 0 = IsViewIn graph.top in
    let told : P (told_view graph v) = (All-append (IsTimeWithin graph.top) v.announced (newly_announced graph (after_doom graph v)) before.0 (newly_in graph.top graph (after_doom graph v) before.1), before.1) in
    view_after P graph r.event r.took r.step.outcome v
    (λ m is. record {
      down = λ link value tells whole.
          let new : IsWithin graph.top value = subst (IsControlWithin graph.top) tells (subst (IsTookWithin graph.top) is took) in
          (before.0, λ l t at. one_report (l == link.0) graph.top t value (v.reports l) new (before.1 l t) at);
      done = λ host count tells. before;
      gone = λ node count tells. before;
    })
    (λ decides. decision_after P graph v told (λ over. (told.0, λ l t at. cc))) before

-- ---- outcomes

crashed_in : (b : Bool) (top : ℕ) (o : Outcome) → IsOutcomeWithin top o → IsOutcomeWithin top (if b then Crashed else o)
crashed_in true top o within = tt
crashed_in false top o within = within

there_in : (b : Bool) (top : ℕ) (o : Outcome) → IsOutcomeWithin top o → IsOutcomeWithin top (if b then o else NoItem)
there_in true top o within = within
there_in false top o within = tt

module _ (graph : Graph) (past : List Record) (nodes : (node : ℕ) → Knows graph node (own graph node past)) where
  at_node : (event : Event) (node : ℕ) → IsOutcomeWithin graph.top (outcome_at graph past event node)
  at_node event node =
      crashed_in (has_crashed node past) graph.top (own_outcome graph node (own graph node past) event) (outcome_in graph node (own graph node past) event (nodes node).clock)

  at_receiver : (event : Event) (to : To) → IsOutcomeWithin graph.top (outcome_to graph past event to)
  at_receiver event (Node n) = at_node event n.0
  at_receiver event _ = tt

  of_message : (event : Event) (o : Option Addressed) → IsOutcomeWithin graph.top (message_outcome graph past event o)
  of_message event None = tt
  of_message event (Some a) = at_receiver event a.to

  of_event : (event : Event) → IsOutcomeWithin graph.top (outcome_of graph past event)
  of_event (Send host service now dests) = at_node (Send host service now dests) host.0
  of_event (Tick node now) = at_node (Tick node now) node.0
  of_event (Take link place keep) =
      there_in (nat_lt place (length (waiting_on link.0 past))) graph.top (outcome_at graph past (Take link place keep) (head_of graph link.0)) (at_node (Take link place keep) (head_of graph link.0))
  of_event (Lose link place) = there_in (nat_lt place (length (waiting_on link.0 past))) graph.top Ok tt
  of_event (ControlTake place keep) = of_message (ControlTake place keep) (slice_get (waiting_control past) place)
  of_event (ControlLose place) = there_in (nat_lt place (length (waiting_control past))) graph.top Ok tt
  of_event (Crash node) = at_node (Crash node) node.0
  of_event _ = tt

-- ---- what is nobody's

nobody_in : (graph : Graph) (v : View) (event : Event) (outcome : Outcome) → IsViewIn graph.top v → IsOutcomeWithin graph.top outcome
    → All (IsMessageWithin graph.top) (nobodys_step graph v event outcome).control → IsStepWithin graph.top (nobodys_step graph v event outcome)
nobody_in graph v Decide outcome known within control = record {
  stamped = tt;
  outcome = tt;
  fate = tt;
  downed = All-nil _;
  noted = newly_in graph.top graph (after_doom graph v) known.1;
  logged = All-nil _;
  put = All-nil _;
  control = control;
}
nobody_in graph v _ outcome known within control = record {
  stamped = tt;
  outcome = within;
  fate = tt;
  downed = All-nil _;
  noted = All-nil _;
  logged = All-nil _;
  put = All-nil _;
  control = control;
}

-- ---- all together

pub record Holds (graph : Graph) (past : List Record) : Type 0 where
  pub waiting : (link : ℕ) → All (IsPacketWithin graph.top) (waiting_on link past)
  pub received : (node : ℕ) → All (λ q. IsPacketWithin graph.top q.1) (receipts graph node (own graph node past))
  pub control : All (IsMessageWithin graph.top) (waiting_control past)
  pub nodes : (node : ℕ) → Knows graph node (own graph node past)
  pub known : IsViewIn graph.top (view graph past)
  pub records : All (IsRecordWithin graph.top) past

took_by : (graph : Graph) (past : List Record) (r : Record) (t : Took) → IsStep graph past r → Holds graph past → r.took ≡ t → IsTookWithin graph.top t
took_by graph past r (Link l p) step before is =
    let w = took_waited graph past r l p step is in at_place (IsPacketWithin graph.top) (waiting_on w.link past) w.place p (before.waiting w.link) w.waited
took_by graph past r (Message m) step before is = taken_message graph (IsMessageWithin graph.top) past r m step before.control is
took_by graph past r _ step before is = tt

with_receipt_in : (top : ℕ) (o : Option (ℕ × Packet)) (qs : List (ℕ × Packet)) → ((q : ℕ × Packet) → o ≡ Some q → IsPacketWithin top q.1) → All (λ q. IsPacketWithin top q.1) qs
    → All (λ q. IsPacketWithin top q.1) (with_receipt o qs)
with_receipt_in top None qs new all = all
with_receipt_in top (Some q) qs new all = All-cons (λ (x : ℕ × Packet). IsPacketWithin top x.1) q qs (new q refl) all

-- what a record leaves as it was, or adds to where it is the node's own
own_by : (P : List Record → Type 0) (b : Bool) (graph : Graph) (past : List Record) (r : Record) (node : ℕ) → is_own graph node r ≡ b → P (own graph node past)
    → (is_own graph node r ≡ true → P (r ∷ own graph node past)) → P (own graph node (r ∷ past))
own_by P true graph past r node mine before more = subst P (sym (own_more graph node r past mine)) (more mine)
own_by P false graph past r node other before more = subst P (sym (own_same graph node r past other)) before

control_left_in : (top : ℕ) (event : Event) (outcome : Outcome) (ms : List Addressed) → All (IsMessageWithin top) ms → All (IsMessageWithin top) (control_left event outcome ms)
control_left_in top (ControlTake place keep) outcome ms all = chosen (takes_out keep outcome) (IsMessageWithin top) (remove ms place) ms (removed (IsMessageWithin top) ms place all) all
control_left_in top (ControlLose place) outcome ms all = chosen (is_ok outcome) (IsMessageWithin top) (remove ms place) ms (removed (IsMessageWithin top) ms place all) all
control_left_in top _ outcome ms all = all

step_in : (graph : Graph) (past : List Record) (r : Record) → IsStep graph past r → IsOfGraph graph r.event → Holds graph past → IsTookWithin graph.top r.took → IsStepWithin graph.top r.step
step_in graph past r step known before took =
    elim (nobodys_or_own graph r) [
      | inl nobody ↦
          let after : IsViewIn graph.top (view graph (r ∷ past)) = view_in graph past r took before.known in
          subst (IsStepWithin graph.top) (sym (step.nobodys nobody))
          (nobody_in graph (view graph past) r.event r.step.outcome before.known (subst (IsOutcomeWithin graph.top) (sym step.outcome_is) (of_event graph past before.nodes r.event))
          (nobodys_control (IsMessageWithin graph.top) graph (view graph past) r.event r.took r.step.outcome (λ (l : LinkId). tt) (λ (h : HostId). after.0) (λ (n : NodeId). tt)))
      | inr mine ↦ step_within graph mine.0 (own graph mine.0 past) r (step.node mine.0 mine.1) known (before.nodes mine.0) took
    ]

holds_more : (graph : Graph) (past : List Record) (r : Record) → IsStep graph past r → IsOfGraph graph r.event → Holds graph past → Holds graph (r ∷ past)
holds_more graph past r step known before =
    let took : IsTookWithin graph.top r.took = took_by graph past r r.took step before refl in
    let now : IsStepWithin graph.top r.step = step_in graph past r step known before took in
    let P : Packet → Type 0 = IsPacketWithin graph.top in
    record {
      waiting = λ link.
          chosen (is_cut link (r ∷ past)) P [] (left_after link r.event r.step.outcome (waiting_on link past) ++ put_on link r.step.put) (All-nil P)
          (All-append P (left_after link r.event r.step.outcome (waiting_on link past)) (put_on link r.step.put)
          (left_all P link r.event r.step.outcome (waiting_on link past) (before.waiting link)) (put_all P link r.step.put now.put));
      received = λ node.
          own_by (λ (o : List Record). All (λ (q : ℕ × Packet). P q.1) (receipts graph node o)) (is_own graph node r) graph past r node refl (before.received node)
          (λ mine. with_receipt_in graph.top (received graph node (own graph node past) r) (receipts graph node (own graph node past))
          (λ q is. received_in graph node (own graph node past) r q took is) (before.received node));
      control =
          All-append (IsMessageWithin graph.top) (control_left r.event r.step.outcome (waiting_control past)) r.step.control
          (control_left_in graph.top r.event r.step.outcome (waiting_control past) before.control) now.control;
      nodes = λ node.
          own_by (Knows graph node) (is_own graph node r) graph past r node refl (before.nodes node)
          (λ mine. knows_more graph node (own graph node past) r (step.node node mine) known (before.nodes node) took);
      known = view_in graph past r took before.known;
      records = All-cons (IsRecordWithin graph.top) r past (record { took = took; step = now }) before.records;
    }

holds : (graph : Graph) (past : List Record) → IsHistory graph past → AreOfGraph graph past → Holds graph past
holds graph [] run known = record {
  waiting = λ link. All-nil (IsPacketWithin graph.top);
  received = λ node. All-nil (λ (q : ℕ × Packet). IsPacketWithin graph.top q.1);
  control = All-nil (IsMessageWithin graph.top);
  nodes = λ node. knows_none graph node;
  known = (All-nil (IsTimeWithin graph.top), λ link value is. cc);
  records = All-nil (IsRecordWithin graph.top);
}
holds graph (r ∷ past) run known =
    holds_more graph past r run.1 (All-head (λ (x : Record). IsOfGraph graph x.event) r past known)
    (holds graph past run.0 (All-tail (λ (x : Record). IsOfGraph graph x.event) r past known))

pub numbers_within : (graph : Graph) (past : List Record) → IsHistory graph past → AreOfGraph graph past → AreNumbersWithin graph past
numbers_within graph past run known =
    let all : Holds graph past = holds graph past run known in
    record {
      packets = record { waiting = all.waiting; received = all.received };
      control = all.control;
      records = all.records;
      nodes = λ node. node_within graph node (own graph node past) (all.nodes node);
      announced = all.known.0;
      reports = all.known.1;
    }
