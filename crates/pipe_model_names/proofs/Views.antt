-- What the controller announced and dropped are hosts and links of the network.
use Rattle.std.proofs.Common.{◌∷◌, if◌then◌else◌, ◌<◌, List, [], length, Bool, true, false, filter}
use Rattle.std.specs.List.{All}
use Rattle.std.proofs.lemmas.List.Elements.{All-append, All-nil, All-weaker}
use Rattle.pipe_base.specs.declared.control.Announced.{Announced}
use Rattle.pipe_base.specs.declared.name.LinkId.{LinkId}
use Rattle.pipe_graph.specs.Graph.{Graph, all_links}
use Rattle.pipe_graph.proofs.Listed.{listed_below}
use Rattle.pipe_model.specs.declared.record.Record.{Record}
use Rattle.pipe_model.specs.Controller.{view}
use Rattle.pipe_model.specs.Decision.{after_decision, after_doom, all_over, is_dead, newly_announced, newly_dead}
use Rattle.pipe_model.specs.View.{View}
use Rattle.pipe_model_atomic.proofs.Announcing.{IsGoing, newly_going}
use Rattle.pipe_model_atomic.proofs.Views.{decision_after, told_view, untold, view_after}
use Rattle.pipe_model_names.specs.Names.{AreHostsOf, IsLinkOf}

pub record IsViewOf (graph : Graph) (v : View) : Type 0 where
  pub hosts : AreHostsOf graph v.announced
  pub drops : All (IsLinkOf graph) v.dropped

pub announced_now : (graph : Graph) (v : View) → AreHostsOf graph (newly_announced graph v)
announced_now graph v =
    All-weaker (λ (a : Announced). IsGoing graph v a.host.0 a.time) (λ (a : Announced). a.host.0 < graph.hosts) (λ (a : Announced) going. going.host_in)
    (newly_announced graph v) (newly_going graph v)

pub dropped_now : (graph : Graph) (v : View) → All (IsLinkOf graph) (newly_dead graph v)
dropped_now graph v = by (all_over graph v)
  where
    by : (over : Bool) → All (IsLinkOf graph) (if over then filter (λ l. is_dead graph v l.0) (all_links graph) else [])
    by true = listed_below (λ (l : LinkId). is_dead graph v l.0) (length graph.links)
    by false = All-nil (IsLinkOf graph)

pub decided : (graph : Graph) (v : View) → IsViewOf graph v → IsViewOf graph (after_decision graph v)
decided graph v is =
    let w : View = told_view graph v in
    let told : AreHostsOf graph w.announced =
    All-append (λ (a : Announced). a.host.0 < graph.hosts) v.announced (newly_announced graph (after_doom graph v)) is.hosts (announced_now graph (after_doom graph v)) in
    decision_after (IsViewOf graph) graph v (record { hosts = told; drops = is.drops })
    (λ over. record { hosts = told; drops = All-append (IsLinkOf graph) w.dropped (newly_dead graph w) is.drops (dropped_now graph w) })

pub view_known : (graph : Graph) (past : List Record) → IsViewOf graph (view graph past)
view_known graph [] = record { hosts = All-nil (λ (a : Announced). a.host.0 < graph.hosts); drops = All-nil (IsLinkOf graph) }
view_known graph (r ∷ past) =
    let v : View = view graph past in
    let before : IsViewOf graph v = view_known graph past in
    view_after (IsViewOf graph) graph r.event r.took r.step.outcome v
    (untold (IsViewOf graph) v r.took (λ link value. record { hosts = before.hosts; drops = before.drops }) (λ host count. record { hosts = before.hosts; drops = before.drops })
    (λ node count. record { hosts = before.hosts; drops = before.drops }))
    (λ decides. decided graph v before) before
