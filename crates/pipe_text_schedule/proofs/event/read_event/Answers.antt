use Rattle.std.proofs.Common.{rules, ◌≡◌, IfOk, Result, subst, sym}
use Rattle.pipe_graph.specs.Graph.{Graph}
use Rattle.pipe_model.specs.declared.event.Event.{Event}
use Rattle.pipe_model.specs.Event.{IsOfGraph}
use Rattle.pipe_text.specs.declared.kind.LineKind.{LineKind}
use Rattle.pipe_text_schedule.proofs.event.read_event.Goals as goal
use Rattle.pipe_text_schedule.proofs.event.read_event.Goals.{then-eq-2, else-eq-2+then-eq-3, else-eq-2+else-eq-3+then-eq-4, else-eq-2+else-eq-3+else-eq-4+then-eq-5, else-eq-2+else-eq-3+else-eq-4+else-eq-5+then-eq-6, else-eq-2+else-eq-3+else-eq-4+else-eq-5+else-eq-6}

known_of : (graph : Graph) {read other : Result Event LineKind} → read ≡ other → IfOk other (IsOfGraph graph) → IfOk read (IsOfGraph graph)
known_of graph is known = subst (λ (r : Result Event LineKind). IfOk r (IsOfGraph graph)) (sym is) known

-- src/event.rt:24:1
pub returns-clause-known : goal.returns-clause-known
returns-clause-known c =
    elim c.if-eq-2.branch [
      | then-eq-2 w ↦ search rules
      | else-eq-2+then-eq-3 w ↦ search rules
      | else-eq-2+else-eq-3+then-eq-4 w ↦ search rules
      | else-eq-2+else-eq-3+else-eq-4+then-eq-5 w ↦ known_of c.args.topology.now w.result-is (w.read_control.ensures.known c.args.topology.now)
      | else-eq-2+else-eq-3+else-eq-4+else-eq-5+then-eq-6 w ↦ known_of c.args.topology.now w.result-is (w.read_decide.ensures.known c.args.topology.now)
      | else-eq-2+else-eq-3+else-eq-4+else-eq-5+else-eq-6 w ↦ search rules
    ]
