use Rattle.std.proofs.Common.{List, map, refl, subst, sym}
use Rattle.pipe_graph.specs.Reach.{JoinsAllHosts}
use Rattle.pipe_model.specs.declared.record.Record.{Record}
use Rattle.pipe_model.specs.OrderedRun.{IsOrderedRun}
use Rattle.pipe_model.specs.Run.{event_of}
use Rattle.pipe_model_atomic.proofs.OrderedRun.{ordered_run}
use Rattle.pipe_world.specs.World.{GraphAndTrace}
use Rattle.pipe_world.proofs.world.World.into_trace.Goals as goal

pub returns-clause-joined : goal.returns-clause-joined
returns-clause-joined c = subst (λ (v : GraphAndTrace). JoinsAllHosts v.graph) c.self.view_is c.self.invariant.keeps.joined

pub returns-clause-run : goal.returns-clause-run
returns-clause-run c =
    let trace : List Record = c.self.inside.history in
    let keeps = c.self.invariant.keeps in
    subst (λ (v : GraphAndTrace). IsOrderedRun v.graph (map event_of c.into_trace.result) c.into_trace.result) c.self.view_is
    (subst (λ (t : List Record). IsOrderedRun c.self.inside.topology (map event_of t) t) (sym c.into_trace.ensures.trace)
    (ordered_run c.self.inside.topology (map event_of trace) trace keeps.joined keeps.names c.into_trace.ensures.within (record { events_are = refl; rules = keeps.rules })))
