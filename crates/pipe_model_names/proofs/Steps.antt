-- What one record takes and does names what is of the network.
use Rattle.std.proofs.Common.{◌≡◌, ℕ, ◌<◌, ◌&&◌, nat_le, nat_lt, if◌then◌else◌, Bool, true, false, List, [], ◌∷◌, length, filter, Option, None, Some, sym, subst, inl, inr}
use Rattle.std.specs.Prelude.{IfSome, slice_get}
use Rattle.std.specs.List.{All}
use Rattle.std.proofs.lemmas.List.Elements.{All-append, All-drop, All-filter, All-head, All-map, All-nil, All-tail, All-weaker}
use Rattle.pipe_base.specs.declared.control.Addressed.{Addressed}
use Rattle.pipe_base.specs.declared.control.Announced.{Announced}
use Rattle.pipe_base.specs.declared.control.Control.{Control}
use Rattle.pipe_base.specs.declared.control.Control.TheVariants.{DropLinks, Freeze, Notice}
use Rattle.pipe_base.specs.declared.control.To.{To}
use Rattle.pipe_base.specs.declared.control.To.TheVariants.{Controller, Node}
use Rattle.pipe_base.specs.declared.message.Entry.{Entry}
use Rattle.pipe_base.specs.declared.message.Service.{Service}
use Rattle.pipe_base.specs.declared.message.Service.TheVariants.{BestEffort, Reliable}
use Rattle.pipe_base.specs.declared.name.HostId.{HostId}
use Rattle.pipe_base.specs.declared.name.LinkId.{LinkId}
use Rattle.pipe_base.specs.declared.name.Ts.{Ts}
use Rattle.pipe_base.specs.declared.message.Key.{Key}
use Rattle.pipe_base.specs.declared.packet.Packet.{Packet}
use Rattle.pipe_base.specs.declared.step.Outcome.{Outcome}
use Rattle.pipe_base.specs.declared.step.Outcome.TheVariants.{Crashed, Ignored, NoItem, Ok, ClockEnd}
use Rattle.pipe_base.specs.Clock.{stamp_at}
use Rattle.pipe_base.specs.Failed.{is_announced}
use Rattle.pipe_base.specs.Messages.{Messages, entry_of, logged_of}
use Rattle.pipe_base.specs.Moment.{Moment, has_link, is_up}
use Rattle.pipe_base.specs.Settled.{unsettled}
use Rattle.pipe_base.specs.Silence.{goes_down, mark_of}
use Rattle.pipe_graph.specs.Graph.{Graph, IsGraph, head_of, ins_of, is_host}
use Rattle.pipe_model.specs.declared.event.Event.{Event}
use Rattle.pipe_model.specs.declared.event.Event.TheVariants.{ControlLose, ControlTake, Crash, Decide, Lose, Send, Take, Tick}
use Rattle.pipe_model.specs.declared.record.Record.{Record}
use Rattle.pipe_model.specs.declared.record.Took.{Took}
use Rattle.pipe_model.specs.declared.record.Took.TheVariants.{Message, Nothing}
use Rattle.pipe_model.specs.Acting.{is_idle, is_own, own}
use Rattle.pipe_model.specs.Clock.{next}
use Rattle.pipe_model.specs.Controller.{nobodys_step, view}
use Rattle.pipe_model.specs.Decision.{after_announce, after_decision, after_doom}
use Rattle.pipe_model.specs.Event.{IsOfGraph}
use Rattle.pipe_model.specs.Logged.{passed_in}
use Rattle.pipe_model.specs.Marks.{downed_by, drops_by, noted_by, told_drops, told_hosts, told_marks}
use Rattle.pipe_model.specs.Moments.{known_drops, moments_of, noted_hosts, quiet_calls}
use Rattle.pipe_model.specs.NeverLate.{AreOfGraph}
use Rattle.pipe_model.specs.Outcome.{has_crashed, item_at, message_outcome, outcome_at, outcome_of, outcome_to, took_at, took_message}
use Rattle.pipe_model.specs.OwnOutcome.{first_failed, is_window_full, own_outcome, send_outcome}
use Rattle.pipe_model.specs.Run.{IsHistory, IsNodeStep, IsStep}
use Rattle.pipe_model.specs.Sender.{sender_calls}
use Rattle.pipe_model.specs.View.{View}
use Rattle.pipe_model.specs.Waiting.{waiting_control, waiting_on}
use Rattle.pipe_model_net.proofs.Acting.{IsNobodys, nobodys_or_own}
use Rattle.pipe_model_net.proofs.Genuine.{SentTo, passed_sent}
use Rattle.pipe_model_atomic.proofs.SentBegun.{ends_in}
use Rattle.pipe_model_names.specs.Names.{AreHostsOf, IsControlOf, IsLinkOf, IsMessageOf, IsOutcomeOf, IsPacketOf, IsStepOf, IsTookOf}
use Rattle.pipe_model_names.proofs.Messages.{decided_known, ins_known, one_if, ticks_known, told_known}
use Rattle.pipe_model_names.proofs.PutLinks.{got_all, puts_known}
use Rattle.pipe_model_names.proofs.Views.{IsViewOf, announced_now, decided, dropped_now, view_known}

either : {A : Type 0} (P : A → Type 0) (b : Bool) (x y : A) → P x → P y → P (if b then x else y)
either P true x y one other = one
either P false x y one other = other

-- ---- what is taken

packet_taken : (graph : Graph) (link : LinkId) (o : Option Packet) → IsLinkOf graph link → IfSome o (IsPacketOf graph) → IsTookOf graph (took_at link o)
packet_taken graph link None known is = tt
packet_taken graph link (Some p) known is = (known, is)

message_taken : (graph : Graph) (o : Option Addressed) → IfSome o (IsMessageOf graph) → IsTookOf graph (took_message o)
message_taken graph None is = tt
message_taken graph (Some a) is = is

item_known : (graph : Graph) (past : List Record) (event : Event) → IsOfGraph graph event → ((link : ℕ) → All (IsPacketOf graph) (waiting_on link past))
    → All (IsMessageOf graph) (waiting_control past) → IsTookOf graph (item_at past event)
item_known graph past (Take link place keep) known packets messages =
    packet_taken graph link (slice_get (waiting_on link.0 past) place) known (got_all (IsPacketOf graph) (waiting_on link.0 past) place (packets link.0))
item_known graph past (ControlTake place keep) known packets messages =
    message_taken graph (slice_get (waiting_control past) place) (got_all (IsMessageOf graph) (waiting_control past) place messages)
item_known graph past _ known packets messages = tt

pub took_known : (graph : Graph) (past : List Record) (r : Record) → IsStep graph past r → IsOfGraph graph r.event
    → ((link : ℕ) → All (IsPacketOf graph) (waiting_on link past)) → All (IsMessageOf graph) (waiting_control past) → IsTookOf graph r.took
took_known graph past r step known packets messages =
    subst (IsTookOf graph) (sym step.took_is)
    (either (IsTookOf graph) (is_idle (outcome_of graph past r.event)) Nothing (item_at past r.event) tt (item_known graph past r.event known packets messages))

-- ---- the outcome

failed_known : (graph : Graph) (noted : List Announced) (dests : List (HostId × List ℕ)) → All (λ d. d.0.0 < graph.hosts) dests
    → IfSome (first_failed noted dests) (λ h. h.0 < graph.hosts)
failed_known graph noted [] all = tt
failed_known graph noted (d ∷ dests) all =
    either (λ (o : Option HostId). IfSome o (λ (h : HostId). h.0 < graph.hosts)) (is_announced d.0.0 noted) (Some d.0) (first_failed noted dests)
    (All-head (λ (x : HostId × List ℕ). x.0.0 < graph.hosts) d dests all)
    (failed_known graph noted dests (All-tail (λ (x : HostId × List ℕ). x.0.0 < graph.hosts) d dests all))

refused_known : (graph : Graph) (failed : Option HostId) (full : Bool) (now next : ℕ) → IfSome failed (λ h. h.0 < graph.hosts)
    → IsOutcomeOf graph (send_outcome failed full graph.top now next)
refused_known graph (Some failed) full now next is = is
refused_known graph None true now next is = tt
refused_known graph None false now next is =
    either (IsOutcomeOf graph) (nat_le (stamp_at now next) graph.top) Ok (ClockEnd (record { 0 = next })) tt tt

own_known : (graph : Graph) (node : ℕ) (own : List Record) (event : Event) → IsOfGraph graph event → IsOutcomeOf graph (own_outcome graph node own event)
own_known graph node own (Send host service now dests) known =
    refused_known graph (first_failed (noted_hosts own) dests) (is_window_full service (unsettled (sender_calls graph node own))) now.0 (next graph node own)
    (failed_known graph (noted_hosts own) dests known.receivers.known)
own_known graph node own (Take link place keep) known = either (IsOutcomeOf graph) (is_up (moments_of graph node own) link.0) Ok Ignored tt tt
own_known graph node own _ known = tt

at_known : (graph : Graph) (past : List Record) (event : Event) (node : ℕ) → IsOfGraph graph event → IsOutcomeOf graph (outcome_at graph past event node)
at_known graph past event node known =
    either (IsOutcomeOf graph) (has_crashed node past) Crashed (own_outcome graph node (own graph node past) event) tt (own_known graph node (own graph node past) event known)

told_outcome : (graph : Graph) (past : List Record) (event : Event) (o : Option Addressed) → IsOfGraph graph event → IsOutcomeOf graph (message_outcome graph past event o)
told_outcome graph past event None known = tt
told_outcome graph past event (Some a) known = by a.to
  where
    by : (to : To) → IsOutcomeOf graph (outcome_to graph past event to)
    by Controller = tt
    by (Node n) = at_known graph past event n.0 known

outcome_known : (graph : Graph) (past : List Record) (event : Event) → IsOfGraph graph event → IsOutcomeOf graph (outcome_of graph past event)
outcome_known graph past (Send host service now dests) known = at_known graph past (Send host service now dests) host.0 known
outcome_known graph past (Tick node now) known = at_known graph past (Tick node now) node.0 known
outcome_known graph past (Take link place keep) known =
    let outcome : Outcome = outcome_at graph past (Take link place keep) (head_of graph link.0) in
    either (IsOutcomeOf graph) (nat_lt place (length (waiting_on link.0 past))) outcome NoItem (at_known graph past (Take link place keep) (head_of graph link.0) known) tt
outcome_known graph past (Lose link place) known = either (IsOutcomeOf graph) (nat_lt place (length (waiting_on link.0 past))) Ok NoItem tt tt
outcome_known graph past (ControlTake place keep) known = told_outcome graph past (ControlTake place keep) (slice_get (waiting_control past) place) known
outcome_known graph past (ControlLose place) known = either (IsOutcomeOf graph) (nat_lt place (length (waiting_control past))) Ok NoItem tt tt
outcome_known graph past (Crash node) known = at_known graph past (Crash node) node.0 known
outcome_known graph past _ known = tt

-- ---- what a node takes down, drops, notes and logs

told_down : (graph : Graph) (node : ℕ) (moments : List Moment) (control : Control) → IsControlOf graph control
    → All (λ d. IsLinkOf graph d.0) (told_marks (ins_of graph node) moments control)
told_down graph node moments (Freeze l) known =
    one_if (λ (d : LinkId × Ts). IsLinkOf graph d.0) (has_link l.0 (ins_of graph node) && is_up moments l.0) (mark_of moments l) (λ is. known)
told_down graph node moments _ known = All-nil (λ (d : LinkId × Ts). IsLinkOf graph d.0)

downs_known : (graph : Graph) (node : ℕ) (own : List Record) (event : Event) (took : Took) → IsTookOf graph took → All (λ d. IsLinkOf graph d.0) (downed_by graph node own event took)
downs_known graph node own (Tick n now) took known =
    let moments : List Moment = moments_of graph node own in
    let silent : LinkId → Bool = goes_down graph.patience moments (quiet_calls graph node own) now.0 in
    All-map (λ (d : LinkId × Ts). IsLinkOf graph d.0) (mark_of moments) (filter silent (ins_of graph node))
    (All-filter silent (IsLinkOf graph) (ins_of graph node) (ins_known graph node))
downs_known graph node own (ControlTake place keep) (Message a) known = told_down graph node (moments_of graph node own) a.control known.told
downs_known graph node own _ _ known = All-nil (λ (d : LinkId × Ts). IsLinkOf graph d.0)

told_dropped : (graph : Graph) (before : List LinkId) (control : Control) → IsControlOf graph control → All (IsLinkOf graph) (told_drops before control)
told_dropped graph before (DropLinks links) known = All-drop (IsLinkOf graph) (length before) links known
told_dropped graph before _ known = All-nil (IsLinkOf graph)

drops_known : (graph : Graph) (before : List LinkId) (event : Event) (took : Took) → IsTookOf graph took → All (IsLinkOf graph) (drops_by before event took)
drops_known graph before (ControlTake place keep) (Message a) known = told_dropped graph before a.control known.told
drops_known graph before _ _ known = All-nil (IsLinkOf graph)

told_noted : (graph : Graph) (before : List Announced) (control : Control) → IsControlOf graph control → AreHostsOf graph (told_hosts before control)
told_noted graph before (Notice list) known = All-drop (λ (a : Announced). a.host.0 < graph.hosts) (length before) list known
told_noted graph before _ known = All-nil (λ (a : Announced). a.host.0 < graph.hosts)

notes_known : (graph : Graph) (before : List Announced) (event : Event) (took : Took) → IsTookOf graph took → AreHostsOf graph (noted_by before event took)
notes_known graph before (ControlTake place keep) (Message a) known = told_noted graph before a.control known.told
notes_known graph before _ _ known = All-nil (λ (a : Announced). a.host.0 < graph.hosts)

-- the senders of what is logged
senders_known : (graph : Graph) (past : List Record) (service : Service) (node : ℕ) (ms : Messages) → AreOfGraph graph past → All (SentTo service node past) ms
    → All (λ e. e.1.key.src.0 < graph.hosts) (logged_of service ms)
senders_known graph past service node ms names sent =
    All-map (λ (e : Service × Entry). e.1.key.src.0 < graph.hosts) (λ m. (service, entry_of m)) ms
    (All-weaker (SentTo service node past) (λ (m : Key × List ℕ). m.0.src.0 < graph.hosts) (λ (m : Key × List ℕ) was. (ends_in graph service past node (entry_of m) names was).0) ms sent)

logs_known : (graph : Graph) (past : List Record) (r : Record) (node : ℕ) → IsHistory graph past → IsStep graph past r → AreOfGraph graph past → is_own graph node r ≡ true
    → All (λ e. e.1.key.src.0 < graph.hosts) r.step.logged
logs_known graph past r node run step names mine =
    let o : List Record = own graph node past in
    let best : Messages = passed_in BestEffort graph node o r in
    let reliable : Messages = passed_in Reliable graph node o r in
    subst (λ (es : List (Service × Entry)). All (λ (e : Service × Entry). e.1.key.src.0 < graph.hosts) es) (sym (step.node node mine).logged_is)
    (All-append (λ (e : Service × Entry). e.1.key.src.0 < graph.hosts) (logged_of BestEffort best) (logged_of Reliable reliable)
    (senders_known graph past BestEffort node best names (passed_sent BestEffort graph past r node run step))
    (senders_known graph past Reliable node reliable names (passed_sent Reliable graph past r node run step)))

-- ---- the step of a record that is nobody's, and of a node's own

nobodys_known : (graph : Graph) → IsGraph graph → (v : View) (event : Event) (outcome : Outcome) → IsViewOf graph v → IsOutcomeOf graph outcome
    → IsStepOf graph (nobodys_step graph v event outcome)
nobodys_known graph is v Decide outcome names refused = record {
  links = All-nil (λ (q : LinkId × Packet). IsLinkOf graph q.0);
  packets = All-nil (λ (q : LinkId × Packet). IsPacketOf graph q.1);
  messages = decided_known graph is (after_decision graph v) (decided graph v names);
  downs = All-nil (λ (d : LinkId × Ts). IsLinkOf graph d.0);
  drops = dropped_now graph (after_announce graph (after_doom graph v));
  entries = All-nil (λ (e : Service × Entry). e.1.key.src.0 < graph.hosts);
  notes = announced_now graph (after_doom graph v);
  refused = tt;
}
nobodys_known graph is v _ outcome names refused = record {
  links = All-nil (λ (q : LinkId × Packet). IsLinkOf graph q.0);
  packets = All-nil (λ (q : LinkId × Packet). IsPacketOf graph q.1);
  messages = All-nil (IsMessageOf graph);
  downs = All-nil (λ (d : LinkId × Ts). IsLinkOf graph d.0);
  drops = All-nil (IsLinkOf graph);
  entries = All-nil (λ (e : Service × Entry). e.1.key.src.0 < graph.hosts);
  notes = All-nil (λ (a : Announced). a.host.0 < graph.hosts);
  refused = refused;
}

nobody_known : (graph : Graph) (past : List Record) (r : Record) → IsGraph graph → IsStep graph past r → IsOfGraph graph r.event → IsNobodys graph r → IsStepOf graph r.step
nobody_known graph past r is step known nobody =
    subst (IsStepOf graph) (sym (step.nobodys nobody))
    (nobodys_known graph is (view graph past) r.event r.step.outcome (view_known graph past)
    (subst (IsOutcomeOf graph) (sym step.outcome_is) (outcome_known graph past r.event known)))

own_told : (graph : Graph) (past : List Record) (r : Record) (node : ℕ) → IsStep graph past r → IsOfGraph graph r.event → is_own graph node r ≡ true
    → All (IsMessageOf graph) r.step.control
own_told graph past r node step known mine =
    subst (All (IsMessageOf graph)) (sym (step.node node mine).control_is) (told_known graph node (r ∷ own graph node past) r.event (ticks_known graph node r known mine))

-- the control messages of any step
pub puts_told : (graph : Graph) (past : List Record) (r : Record) → IsGraph graph → IsStep graph past r → IsOfGraph graph r.event → All (IsMessageOf graph) r.step.control
puts_told graph past r is step known =
    elim (nobodys_or_own graph r) [
      | inl nobody ↦ (nobody_known graph past r is step known nobody).messages
      | inr mine ↦ own_told graph past r mine.0 step known mine.1
    ]

-- the step of a node, once what it took is of the network and the packets that it puts are
owned_known : (graph : Graph) (past : List Record) (r : Record) (node : ℕ) → IsHistory graph past → IsStep graph past r → AreOfGraph graph past → IsOfGraph graph r.event
    → IsTookOf graph r.took → All (λ q. IsPacketOf graph q.1) r.step.put → is_own graph node r ≡ true → IsStepOf graph r.step
owned_known graph past r node run step names known took packets mine =
    let o : List Record = own graph node past in
    let owes : IsNodeStep graph node o r = step.node node mine in
    record {
      links = puts_known graph node o r owes;
      packets = packets;
      messages = own_told graph past r node step known mine;
      downs = subst (λ (ds : List (LinkId × Ts)). All (λ (d : LinkId × Ts). IsLinkOf graph d.0) ds) (sym owes.downed_is) (downs_known graph node o r.event r.took took);
      drops = subst (All (IsLinkOf graph)) (sym owes.dropped_is) (drops_known graph (known_drops o) r.event r.took took);
      entries = logs_known graph past r node run step names mine;
      notes = subst (AreHostsOf graph) (sym owes.noted_is)
          (either (AreHostsOf graph) (is_host graph node) (noted_by (noted_hosts o) r.event r.took) [] (notes_known graph (noted_hosts o) r.event r.took took)
          (All-nil (λ (a : Announced). a.host.0 < graph.hosts)));
      refused = subst (IsOutcomeOf graph) (sym step.outcome_is) (outcome_known graph past r.event known);
    }

pub step_known : (graph : Graph) (past : List Record) (r : Record) → IsGraph graph → IsHistory graph past → IsStep graph past r → AreOfGraph graph past → IsOfGraph graph r.event
    → IsTookOf graph r.took → All (λ q. IsPacketOf graph q.1) r.step.put → IsStepOf graph r.step
step_known graph past r is run step names known took packets =
    elim (nobodys_or_own graph r) [
      | inl nobody ↦ nobody_known graph past r is step known nobody
      | inr mine ↦ owned_known graph past r mine.0 run step names known took packets mine.1
    ]
