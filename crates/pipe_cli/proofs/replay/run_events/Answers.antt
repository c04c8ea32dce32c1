use Rattle.std.proofs.Common.{◌≡◌, List, ◌∷◌, ◌++◌, All, map, ap, subst, sym, ◌∙◌}
use Rattle.std.proofs.lemmas.List.Elements.{All-tail}
use Rattle.std.proofs.lemmas.Result.{err_from_is_err_and}
use Rattle.pipe_graph.specs.Graph.{Graph}
use Rattle.pipe_model.specs.declared.event.Event.{Event}
use Rattle.pipe_model.specs.Event.{IsOfGraph}
use Rattle.pipe_model.specs.Run.{event_of}
use Rattle.pipe_cli.specs.Running.{IsStopped}
use Rattle.pipe_cli.proofs.RunLaws.{happened_more, stopped_at}
use Rattle.pipe_cli.proofs.replay.run_events.Goals as goal

pub running-preserved : goal.running-preserved
running-preserved c =
    let graph : Graph = c.args.world.now.graph in
    let next = c.in_ok-step.ensures.ok in
    let rest : List Event = c.pop_front.new.self.items in
    let left_is : c.give_back.new.left.items ≡ rest = c.give_back.ensures.items in
    let known : All (IsOfGraph graph) (c.in-Some.event ∷ rest) = subst (λ (es : List Event). All (IsOfGraph graph) es) c.in-Some.ensures.items c.running.invariant.known in
    record {
      graph = next.graph_is ∙ c.running.invariant.graph;
      events =
          ap (λ (es : List Event). map event_of c.step.new.self.trace ++ es) left_is
          ∙ happened_more c.running.world.trace c.step.new.self.trace next.adds.added c.in-Some.event c.running.left.items rest c.args.events next.adds.appended next.adds.event_is
          c.in-Some.ensures.items c.running.invariant.events;
      known = subst (λ (es : List Event). All (IsOfGraph graph) es) (sym left_is) (All-tail (IsOfGraph graph) c.in-Some.event rest known);
    }

pub returns-in_err-step-clause-stopped : goal.returns-in_err-step-clause-stopped
returns-in_err-step-clause-stopped c =
    let got = err_from_is_err_and c.from_residual.result c.from_residual.ensures.1 in
    let same : got.0 ≡ c.in_err-step.field-0.0 = got.2 in
    rw got.1 (λ items is.
    subst (λ (g : Graph). IsStopped g c.args.events items) c.running.invariant.graph
    (stopped_at c.running.world.graph c.running.world.trace c.in-Some.event c.running.left.items c.pop_front.new.self.items c.args.events items c.in-Some.ensures.items
    c.running.invariant.events (c.in_err-step.ensures.full items (sym same ∙ is))))
