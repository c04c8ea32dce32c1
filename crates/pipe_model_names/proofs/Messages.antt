-- Control messages go to the controller or to nodes of the network, and tell of hosts, links and nodes of it.
use Rattle.std.proofs.Common.{◌≡◌, ℕ, ◌<◌, ◌≤◌, ◌==◌, ◌&&◌, not, nat_lt, if◌then◌else◌, Bool, true, false, List, [], ◌∷◌, ◌++◌, length, filter, Option, None, Some, refl, subst, arith, eqb-true}
use Rattle.std.specs.Prelude.{flat_map}
use Rattle.std.specs.List.{All, range_with_len}
use Rattle.std.proofs.lemmas.Bool.{and_parts, ltb-true}
use Rattle.std.proofs.lemmas.List.Elements.{All-append, All-cons, All-filter, All-from_get_or, All-head, All-map, All-nil, All-tail, All-weaker}
use Rattle.std.proofs.lemmas.List.FromFn.{get_or-range_with_len, length-range_with_len}
use Rattle.pipe_base.specs.declared.control.Control.TheVariants.{Done, Gone}
use Rattle.pipe_base.specs.declared.control.To.TheVariants.{Controller}
use Rattle.pipe_base.specs.declared.name.HostId.{HostId}
use Rattle.pipe_base.specs.declared.name.LinkId.{LinkId}
use Rattle.pipe_base.specs.declared.name.NodeId.{NodeId}
use Rattle.pipe_base.specs.declared.name.Ts.{Ts}
use Rattle.pipe_base.specs.Settled.{is_recalling}
use Rattle.pipe_graph.specs.Graph.{Graph, IsGraph, all_links, head_of, ins_of, is_host}
use Rattle.pipe_graph.specs.Passable.{not_dropped}
use Rattle.pipe_graph.proofs.Listed.{listed_below}
use Rattle.pipe_model.specs.declared.event.Event.{Event}
use Rattle.pipe_model.specs.declared.event.Event.TheVariants.{Tick}
use Rattle.pipe_model.specs.declared.record.Record.{Record}
use Rattle.pipe_model.specs.Acting.{acts, is_idle, is_own, own}
use Rattle.pipe_model.specs.Decision.{all_hosts, all_nodes, drop_links, drops, freeze, freezes, host_id, is_behind, is_frozen, lags, messages, node_id, notice, notices}
use Rattle.pipe_model.specs.Duties.{control_of, done_told, down_told, downs_told, gone_told}
use Rattle.pipe_model.specs.Event.{IsOfGraph}
use Rattle.pipe_model.specs.Marks.{mark}
use Rattle.pipe_model.specs.Moments.{known_drops, noted_hosts}
use Rattle.pipe_model.specs.Sender.{sender_calls}
use Rattle.pipe_model.specs.View.{View}
use Rattle.pipe_model_names.specs.Names.{IsLinkOf, IsMessageOf}
use Rattle.pipe_model_names.proofs.Views.{IsViewOf}

pub ins_known : (graph : Graph) (node : ℕ) → All (IsLinkOf graph) (ins_of graph node)
ins_known graph node = listed_below (λ (l : LinkId). head_of graph l.0 == node) (length graph.links)

pub one_if : {A : Type 0} (P : A → Type 0) (b : Bool) (x : A) → (b ≡ true → P x) → All P (if b then x ∷ [] else [])
one_if P true x holds = All-cons P x [] (holds refl) (All-nil P)
one_if P false x holds = All-nil P

-- ---- of a node

told_one : (graph : Graph) (l : LinkId) (o : Option Ts) → IsLinkOf graph l → All (IsMessageOf graph) (down_told l o)
told_one graph l None known = All-nil (IsMessageOf graph)
told_one graph l (Some value) known = All-cons (IsMessageOf graph) _ [] (record { receiver = tt; told = known }) (All-nil (IsMessageOf graph))

told_all : (graph : Graph) (f : LinkId → Option Ts) (ls : List LinkId) → All (IsLinkOf graph) ls → All (IsMessageOf graph) (flat_map (λ (l : LinkId). down_told l (f l)) ls)
told_all graph f [] all = All-nil (IsMessageOf graph)
told_all graph f (l ∷ ls) all =
    All-append (IsMessageOf graph) (down_told l (f l)) (flat_map (λ (k : LinkId). down_told k (f k)) ls) (told_one graph l (f l) (All-head (IsLinkOf graph) l ls all))
    (told_all graph f ls (All-tail (IsLinkOf graph) l ls all))

pub told_known : (graph : Graph) (node : ℕ) (own : List Record) (event : Event) → ((n : NodeId) (now : Ts) → event ≡ Tick n now → node < graph.nodes)
    → All (IsMessageOf graph) (control_of graph node own event)
told_known graph node own (Tick n now) ticks =
    let done : Bool = nat_lt 0 (length (noted_hosts own)) && not (is_recalling (sender_calls graph node own)) in
    All-append (IsMessageOf graph) (downs_told graph node own ++ done_told graph node own) (gone_told node own)
    (All-append (IsMessageOf graph) (downs_told graph node own) (done_told graph node own)
    (told_all graph (λ (l : LinkId). mark own l.0) (filter (λ (l : LinkId). not_dropped (known_drops own) l.0) (ins_of graph node))
    (All-filter (λ (l : LinkId). not_dropped (known_drops own) l.0) (IsLinkOf graph) (ins_of graph node) (ins_known graph node)))
    (one_if (IsMessageOf graph) (is_host graph node && done) (record { to = Controller; control = Done (record { 0 = node }) (length (noted_hosts own)) })
    (λ is. record { receiver = tt; told = ltb-true node graph.hosts ((and_parts (is_host graph node) done is).0) })))
    (one_if (IsMessageOf graph) (nat_lt 0 (length (known_drops own))) (record { to = Controller; control = Gone (record { 0 = node }) (length (known_drops own)) })
    (λ is. record { receiver = tt; told = ticks n now refl }))
told_known graph node own _ ticks = All-nil (IsMessageOf graph)

-- a node that ticks is of the network
pub ticks_known : (graph : Graph) (node : ℕ) (r : Record) → IsOfGraph graph r.event → is_own graph node r ≡ true → (n : NodeId) (now : Ts) → r.event ≡ Tick n now → node < graph.nodes
ticks_known graph node r known mine n now event =
    let acting = subst (λ (e : Event). acts graph node e r.took ≡ true) event ((and_parts (acts graph node r.event r.took) (not (is_idle r.step.outcome)) mine).0) in
    let is = subst (IsOfGraph graph) event known in subst (λ (k : ℕ). k < graph.nodes) (eqb-true n.0 node acting) is.0

-- ---- of the controller

numbers_below : (n : ℕ) → All (λ k. k < n) (range_with_len 0 n)
numbers_below n =
    All-from_get_or (λ (k : ℕ). k < n) (range_with_len 0 n) 0
    (λ i lt. let size = length-range_with_len 0 n in let at = get_or-range_with_len 0 n i 0 (omega arith) in omega arith)

frozen_known : (graph : Graph) → IsGraph graph → (v : View) → All (IsMessageOf graph) (freezes graph v)
frozen_known graph is v =
    All-map (IsMessageOf graph) (freeze graph) (filter (is_frozen graph v) (all_links graph))
    (All-weaker (IsLinkOf graph) (λ (l : LinkId). IsMessageOf graph (freeze graph l)) (λ l lt. record { receiver = is.heads_in l.0 lt; told = lt })
    (filter (is_frozen graph v) (all_links graph)) (listed_below (is_frozen graph v) (length graph.links)))

noticed_known : (graph : Graph) → IsGraph graph → (v : View) → IsViewOf graph v → All (IsMessageOf graph) (notices graph v)
noticed_known graph is v names =
    let within : graph.hosts ≤ graph.nodes = is.hosts_in in
    All-map (IsMessageOf graph) (notice v) (filter (λ (h : HostId). is_behind v h.0) (all_hosts graph))
    (All-filter (λ (h : HostId). is_behind v h.0) (λ (h : HostId). IsMessageOf graph (notice v h)) (all_hosts graph)
    (All-map (λ (h : HostId). IsMessageOf graph (notice v h)) host_id (range_with_len 0 graph.hosts)
    (All-weaker (λ (n : ℕ). n < graph.hosts) (λ (n : ℕ). IsMessageOf graph (notice v (host_id n))) (λ n lt. record { receiver = omega arith; told = names.hosts })
    (range_with_len 0 graph.hosts) (numbers_below graph.hosts))))

dropped_known : (graph : Graph) (v : View) → IsViewOf graph v → All (IsMessageOf graph) (drops graph v)
dropped_known graph v names =
    All-map (IsMessageOf graph) (drop_links v) (filter (λ (n : NodeId). lags graph v n.0) (all_nodes graph))
    (All-filter (λ (n : NodeId). lags graph v n.0) (λ (n : NodeId). IsMessageOf graph (drop_links v n)) (all_nodes graph)
    (All-map (λ (n : NodeId). IsMessageOf graph (drop_links v n)) node_id (range_with_len 0 graph.nodes)
    (All-weaker (λ (n : ℕ). n < graph.nodes) (λ (n : ℕ). IsMessageOf graph (drop_links v (node_id n))) (λ n lt. record { receiver = lt; told = names.drops })
    (range_with_len 0 graph.nodes) (numbers_below graph.nodes))))

pub decided_known : (graph : Graph) → IsGraph graph → (v : View) → IsViewOf graph v → All (IsMessageOf graph) (messages graph v)
decided_known graph is v names =
    All-append (IsMessageOf graph) (freezes graph v ++ notices graph v) (drops graph v)
    (All-append (IsMessageOf graph) (freezes graph v) (notices graph v) (frozen_known graph is v) (noticed_known graph is v names)) (dropped_known graph v names)
