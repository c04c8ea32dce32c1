-- What a record that is no node's own puts: no packet, and as control messages only those of a decision.
use Rattle.std.proofs.Common.{◌≡◌, List, [], ◌++◌, None, refl, filter}
use Rattle.std.specs.List.{All}
use Rattle.std.proofs.lemmas.List.Elements.{All-append, All-map, All-nil}
use Rattle.pipe_base.specs.declared.control.Addressed.{Addressed}
use Rattle.pipe_base.specs.declared.name.HostId.{HostId}
use Rattle.pipe_base.specs.declared.name.LinkId.{LinkId}
use Rattle.pipe_base.specs.declared.name.NodeId.{NodeId}
use Rattle.pipe_base.specs.declared.step.Outcome.{Outcome}
use Rattle.pipe_graph.specs.Graph.{Graph, all_links}
use Rattle.pipe_model.specs.declared.event.Event.{Event}
use Rattle.pipe_model.specs.declared.event.Event.TheVariants.{Decide}
use Rattle.pipe_model.specs.declared.record.Took.{Took}
use Rattle.pipe_model.specs.Controller.{after_event, nobodys_step}
use Rattle.pipe_model.specs.Decision.{after_decision, all_hosts, all_nodes, drop_links, drops, freeze, freezes, is_behind, is_frozen, lags, messages, notice, notices}
use Rattle.pipe_model.specs.View.{View}

each : {X : Type 0} (P : X → Type 0) → ((x : X) → P x) → (xs : List X) → All P xs
each P all xs = λ k d lt. all _

-- what holds of each freeze, each notice and each list of dropped links holds of all messages of a decision
pub messages_each : (P : Addressed → Type 0) (graph : Graph) (v : View) → ((l : LinkId) → P (freeze graph l)) → ((h : HostId) → P (notice v h))
    → ((n : NodeId) → P (drop_links v n)) → All P (messages graph v)
messages_each P graph v frozen told gone =
    All-append P (freezes graph v ++ notices graph v) (drops graph v)
    (All-append P (freezes graph v) (notices graph v)
    (All-map P (freeze graph) (filter (is_frozen graph v) (all_links graph)) (each (λ (l : LinkId). P (freeze graph l)) frozen (filter (is_frozen graph v) (all_links graph))))
    (All-map P (notice v) (filter (λ (h : HostId). is_behind v h.0) (all_hosts graph))
    (each (λ (h : HostId). P (notice v h)) told (filter (λ (h : HostId). is_behind v h.0) (all_hosts graph)))))
    (All-map P (drop_links v) (filter (λ (n : NodeId). lags graph v n.0) (all_nodes graph))
    (each (λ (n : NodeId). P (drop_links v n)) gone (filter (λ (n : NodeId). lags graph v n.0) (all_nodes graph))))

-- the notices and lists are those of what the controller knows after the record
pub nobodys_control : (P : Addressed → Type 0) (graph : Graph) (v : View) (event : Event) (took : Took) (outcome : Outcome) → ((l : LinkId) → P (freeze graph l))
    → ((h : HostId) → P (notice (after_event graph event took outcome v) h)) → ((n : NodeId) → P (drop_links (after_event graph event took outcome v) n))
    → All P (nobodys_step graph v event outcome).control
nobodys_control P graph v Decide took outcome frozen told gone = messages_each P graph (after_decision graph v) frozen told gone
nobodys_control P graph v _ took outcome frozen told gone = All-nil P

pub nobodys_put : (graph : Graph) (v : View) (event : Event) (outcome : Outcome) → (nobodys_step graph v event outcome).put ≡ []
nobodys_put graph v Decide outcome = refl
nobodys_put graph v _ outcome = refl

pub nobodys_fate : (graph : Graph) (v : View) (event : Event) (outcome : Outcome) → (nobodys_step graph v event outcome).fate ≡ None
nobodys_fate graph v Decide outcome = refl
nobodys_fate graph v _ outcome = refl
