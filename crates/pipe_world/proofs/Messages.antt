-- Control messages go to the controller or to nodes of the network.
use Rattle.std.proofs.Common.{ℕ, List, [], ◌∷◌, Option, None, Some, filter, sym, subst, ap, inl, inr, ◌<◌, length, arith, ◌++◌, ◌&&◌, not, nat_lt, Bool, true, false, if◌then◌else◌}
use Rattle.std.specs.List.{All, range_with_len}
use Rattle.std.specs.Prelude.{IfSome, flat_map, slice_get}
use Rattle.std.proofs.lemmas.List.Elements.{All-nil, All-cons, All-append, All-map, All-filter, All-weaker}
use Rattle.pipe_base.specs.Settled.{is_recalling}
use Rattle.pipe_base.specs.declared.control.Addressed.{Addressed}
use Rattle.pipe_base.specs.declared.control.Control.TheVariants.{Done, Gone}
use Rattle.pipe_base.specs.declared.control.To.TheVariants.{Controller}
use Rattle.pipe_base.specs.declared.name.HostId.{HostId}
use Rattle.pipe_base.specs.declared.name.LinkId.{LinkId}
use Rattle.pipe_base.specs.declared.name.NodeId.{NodeId}
use Rattle.pipe_base.specs.declared.name.Ts.{Ts}
use Rattle.pipe_base.specs.declared.packet.Packet.{Packet}
use Rattle.pipe_base.specs.declared.step.Outcome.{Outcome}
use Rattle.pipe_base.specs.declared.step.Step.{Step}
use Rattle.pipe_graph.specs.Graph.{Graph, ins_of, IsGraph, all_links, head_of, link_id, is_host}
use Rattle.pipe_graph.specs.Passable.{not_dropped}
use Rattle.pipe_model.specs.Controller.{nobodys_step, view}
use Rattle.pipe_model.specs.Decision.{after_decision, all_hosts, freeze, freezes, host_id, is_behind, is_frozen, notice, notices, all_nodes, drop_links, drops, lags, node_id}
use Rattle.pipe_model.specs.Sender.{sender_calls}
use Rattle.pipe_model.specs.View.{View}
use Rattle.pipe_model.specs.declared.event.Event.{Event}
use Rattle.pipe_model.specs.declared.event.Event.TheVariants.{Tick, Take, ControlTake, Decide}
use Rattle.pipe_model.specs.declared.record.Record.{Record}
use Rattle.pipe_model.specs.Acting.{own}
use Rattle.pipe_model.specs.Duties.{control_of, down_told, done_told, downs_told, gone_told}
use Rattle.pipe_model.specs.Marks.{mark}
use Rattle.pipe_model.specs.Moments.{known_drops, noted_hosts}
use Rattle.pipe_model.specs.Outcome.{took_at, took_message}
use Rattle.pipe_model.specs.Run.{IsHistory, IsStep}
use Rattle.pipe_model.specs.Waiting.{waiting_control}
use Rattle.pipe_model_net.proofs.Acting.{nobodys_or_own}
use Rattle.pipe_model_net.proofs.ControlMessages.{messages_keep}
use Rattle.pipe_net.specs.Waits.{Waits, waiting}
use Rattle.pipe_world.specs.Turn.{IsAddressee, ReachesKnown, taken_of}
use Rattle.pipe_world.proofs.StepPuts.{got_all}
use Rattle.std.proofs.lemmas.List.FromFn.{get_or-range_with_len, length-range_with_len}

abbrev pub GoesToKnown : Graph → Addressed → Type 0
GoesToKnown graph m = IsAddressee graph m.to

told_one : (graph : Graph) (l : LinkId) (o : Option Ts) → All (GoesToKnown graph) (down_told l o)
told_one graph l None = All-nil (GoesToKnown graph)
told_one graph l (Some value) = All-cons (GoesToKnown graph) _ [] tt (All-nil (GoesToKnown graph))

told_all : (graph : Graph) (f : LinkId → Option Ts) (ls : List LinkId) → All (GoesToKnown graph) (flat_map (λ (l : LinkId). down_told l (f l)) ls)
told_all graph f [] = All-nil (GoesToKnown graph)
told_all graph f (l ∷ ls) =
    All-append (GoesToKnown graph) (down_told l (f l)) (flat_map (λ (k : LinkId). down_told k (f k)) ls) (told_one graph l (f l)) (told_all graph f ls)

done_known : (graph : Graph) (node count : ℕ) (told : Bool)
    → All (GoesToKnown graph) (if told then record { to = Controller; control = Done (record { 0 = node }) count } ∷ [] else [])
done_known graph node count true = All-cons (GoesToKnown graph) _ [] tt (All-nil (GoesToKnown graph))
done_known graph node count false = All-nil (GoesToKnown graph)

gone_known : (graph : Graph) (node count : ℕ) (told : Bool)
    → All (GoesToKnown graph) (if told then record { to = Controller; control = Gone (record { 0 = node }) count } ∷ [] else [])
gone_known graph node count true = All-cons (GoesToKnown graph) _ [] tt (All-nil (GoesToKnown graph))
gone_known graph node count false = All-nil (GoesToKnown graph)

owed_known : (graph : Graph) (node : ℕ) (own : List Record) (event : Event) → All (GoesToKnown graph) (control_of graph node own event)
owed_known graph node own (Tick n now) =
    All-append (GoesToKnown graph) (downs_told graph node own ++ done_told graph node own) (gone_told node own)
    (All-append (GoesToKnown graph) (downs_told graph node own) (done_told graph node own)
    (told_all graph (λ (l : LinkId). mark own l.0) (filter (λ (l : LinkId). not_dropped (known_drops own) l.0) (ins_of graph node)))
    (done_known graph node (length (noted_hosts own)) (is_host graph node && (nat_lt 0 (length (noted_hosts own)) && not (is_recalling (sender_calls graph node own))))))
    (gone_known graph node (length (known_drops own)) (nat_lt 0 (length (known_drops own))))
owed_known graph node own _ = All-nil (GoesToKnown graph)

numbers_below : (n : ℕ) → All (λ k. k < n) (range_with_len 0 n)
numbers_below n = λ k d lt.
    let below : k < n = omega (arith, lt, length-range_with_len 0 n) in
    omega (arith, get_or-range_with_len 0 n k d below, below)

-- the messages of a decision go to heads of links and to hosts
frozen_known : (graph : Graph) → IsGraph graph → (v : View) → All (GoesToKnown graph) (freezes graph v)
frozen_known graph is v =
    All-map (GoesToKnown graph) (freeze graph) (filter (is_frozen graph v) (all_links graph))
    (All-filter (is_frozen graph v) (λ (l : LinkId). head_of graph l.0 < graph.nodes) (all_links graph)
    (All-map (λ (l : LinkId). head_of graph l.0 < graph.nodes) link_id (range_with_len 0 (length graph.links))
    (All-weaker (λ (n : ℕ). n < length graph.links) (λ (n : ℕ). head_of graph n < graph.nodes) is.heads_in (range_with_len 0 (length graph.links)) (numbers_below (length graph.links)))))

noticed_known : (graph : Graph) → IsGraph graph → (v : View) → All (GoesToKnown graph) (notices graph v)
noticed_known graph is v =
    All-map (GoesToKnown graph) (notice v) (filter (λ (h : HostId). is_behind v h.0) (all_hosts graph))
    (All-filter (λ (h : HostId). is_behind v h.0) (λ (h : HostId). h.0 < graph.nodes) (all_hosts graph)
    (All-map (λ (h : HostId). h.0 < graph.nodes) host_id (range_with_len 0 graph.hosts)
    (All-weaker (λ (n : ℕ). n < graph.hosts) (λ (n : ℕ). n < graph.nodes) (λ n lt. let within = is.hosts_in in omega arith) (range_with_len 0 graph.hosts) (numbers_below graph.hosts))))

dropped_known : (graph : Graph) (v : View) → All (GoesToKnown graph) (drops graph v)
dropped_known graph v =
    All-map (GoesToKnown graph) (drop_links v) (filter (λ (n : NodeId). lags graph v n.0) (all_nodes graph))
    (All-filter (λ (n : NodeId). lags graph v n.0) (λ (n : NodeId). n.0 < graph.nodes) (all_nodes graph)
    (All-map (λ (n : NodeId). n.0 < graph.nodes) node_id (range_with_len 0 graph.nodes) (numbers_below graph.nodes)))

decided_known : (graph : Graph) → IsGraph graph → (v : View) (event : Event) (outcome : Outcome) → All (GoesToKnown graph) (nobodys_step graph v event outcome).control
decided_known graph is v Decide outcome =
    let w : View = after_decision graph v in
    All-append (GoesToKnown graph) (freezes graph w ++ notices graph w) (drops graph w)
    (All-append (GoesToKnown graph) (freezes graph w) (notices graph w) (frozen_known graph is w) (noticed_known graph is w)) (dropped_known graph w)
decided_known graph is v _ outcome = All-nil (GoesToKnown graph)

put_known : (graph : Graph) → IsGraph graph → (past : List Record) (r : Record) → IsStep graph past r → All (GoesToKnown graph) r.step.control
put_known graph is past r step = elim (nobodys_or_own graph r) [
  | inl nobody ↦
      subst (All (GoesToKnown graph)) (sym (ap (λ (s : Step). s.control) (step.nobodys nobody))) (decided_known graph is (view graph past) r.event r.step.outcome)
  | inr mine ↦
      subst (All (GoesToKnown graph)) (sym (step.node mine.0 mine.1).control_is) (owed_known graph mine.0 (r ∷ own graph mine.0 past) r.event)
]

-- so each control message that waits goes there
pub messages_known : (graph : Graph) → IsGraph graph → (past : List Record) → IsHistory graph past → All (GoesToKnown graph) (waiting_control past)
messages_known graph is past run =
    messages_keep graph (λ (before : List Record) (m : Addressed). GoesToKnown graph m)
    (record { stays = λ before r m step known. known; starts = λ before r earlier step. put_known graph is before r step }) past run

no_message : (graph : Graph) (link : LinkId) (o : Option Packet) → ReachesKnown graph (took_at link o)
no_message graph link None = tt
no_message graph link (Some p) = tt

message_known : (graph : Graph) (o : Option Addressed) → IfSome o (GoesToKnown graph) → ReachesKnown graph (took_message o)
message_known graph None known = tt
message_known graph (Some m) known = known

-- and what an event takes reaches a node of the network
pub taken_known : (graph : Graph) (waits : Waits) (event : Event) → All (GoesToKnown graph) waits.control → ReachesKnown graph (taken_of waits event)
taken_known graph waits (ControlTake place keep) all =
    message_known graph (slice_get waits.control place) (got_all (GoesToKnown graph) waits.control place all)
taken_known graph waits (Take link place keep) all = no_message graph link (slice_get (waiting link.0 waits) place)
taken_known graph waits _ all = tt
