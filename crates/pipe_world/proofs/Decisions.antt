-- A decision puts few messages, and its record is what the rules say.
use Rattle.std.proofs.Common.{◌+◌, ◌≤◌, Bool, not, List, ◌∷◌, length, filter, reverse, refl, subst, sym, ap, ◌∙◌, arith, length-append, ◌++◌}
use Rattle.std.proofs.lemmas.Bool.{false≢true}
use Rattle.std.proofs.lemmas.List.{length-map}
use Rattle.std.proofs.lemmas.List.Filters.{length-filter_both}
use Rattle.std.proofs.lemmas.List.FromFn.{length-map-range_with_len}
use Rattle.pipe_base.specs.declared.name.HostId.{HostId}
use Rattle.pipe_graph.specs.Graph.{Graph, all_links, link_id}
use Rattle.pipe_base.specs.declared.name.NodeId.{NodeId}
use Rattle.pipe_control.specs.declared.controller.Controller.{Controller}
use Rattle.pipe_model.specs.declared.record.Record.{Record}
use Rattle.pipe_model.specs.Controller.{view}
use Rattle.pipe_model.specs.Decision.{all_hosts, freeze, freezes, host_id, is_behind, is_frozen, messages, notice, notices, all_nodes, drop_links, drops, lags, node_id}
use Rattle.pipe_model.specs.Run.{IsStep}
use Rattle.pipe_model.specs.View.{View}
use Rattle.pipe_net.specs.Waits.{Waits}
use Rattle.pipe_world.specs.declared.node.NodeState.{NodeState}
use Rattle.pipe_world.specs.Decision.{Decides, decided}
use Rattle.pipe_world.specs.World.{Keeps, Runs, RunsFor}
use Rattle.pipe_world.proofs.WorldSteps.{history_push, kept_nodes}

filter_few : {X : Type 0} (p : X → Bool) (xs : List X) → length (filter p xs) ≤ length xs
filter_few p xs = omega (arith, length-filter_both p (λ x. not (p x)) (λ x. refl) xs)

pub messages_few : (graph : Graph) (v : View) → length (messages graph v) ≤ length graph.links + graph.hosts + graph.nodes
messages_few graph v =
    omega (
      arith,
      length-append (freezes graph v ++ notices graph v) (drops graph v),
      length-append (freezes graph v) (notices graph v),
      length-map (filter (λ (n : NodeId). lags graph v n.0) (all_nodes graph)) (drop_links v),
      filter_few (λ (n : NodeId). lags graph v n.0) (all_nodes graph),
      length-map-range_with_len node_id 0 graph.nodes,
      length-map (filter (is_frozen graph v) (all_links graph)) (freeze graph),
      length-map (filter (λ (h : HostId). is_behind v h.0) (all_hosts graph)) (notice v),
      filter_few (is_frozen graph v) (all_links graph),
      filter_few (λ (h : HostId). is_behind v h.0) (all_hosts graph),
      length-map-range_with_len link_id 0 (length graph.links),
      length-map-range_with_len host_id 0 graph.hosts,
    )

pub decided_step : (graph : Graph) (past : List Record) → IsStep graph past (decided graph (view graph past))
decided_step graph past = record {
  outcome_is = refl;
  took_is = refl;
  nobodys = λ nobody. refl;
  node = λ n mine. absurd (false≢true mine);
}

-- after the record of a decision all stands
pub decided_runs : (graph : Graph) (nodes : List NodeState) (lists left : Waits) (before after : Controller) (old new : List Record)
    → RunsFor graph nodes lists before old → Decides graph (view graph (reverse old)) lists left after old new → RunsFor graph nodes left after new
decided_runs graph nodes lists left before after old new runs done =
    let past : List Record = reverse old in
    let r : Record = decided graph (view graph past) in
    let keeps : Keeps graph nodes left (r ∷ past) =
    kept_nodes graph nodes lists left past r runs.keeps (decided_step graph past) (λ n. refl) (λ n. refl) tt (done.queues_stand past runs.keeps.queues_are) in
    subst (Runs graph nodes left after) (sym (ap reverse done.appended ∙ history_push old r)) (record { keeps = keeps; controller_is = done.controller_is })
