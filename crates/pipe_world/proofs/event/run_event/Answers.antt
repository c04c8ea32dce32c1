use Rattle.std.proofs.Common.{◌≡◌, ℕ, List, get_or, length, reverse, refl, subst, sym, ap, ◌∙◌}
use Rattle.std.proofs.lemmas.List.{get_or_push}
use Rattle.std.proofs.lemmas.Result.{IfErr-weaker, on_ok_weaker}
use Rattle.pipe_graph.specs.Graph.{Graph}
use Rattle.pipe_control.specs.declared.controller.Controller.{Controller}
use Rattle.pipe_control.specs.Known as control
use Rattle.pipe_model.specs.declared.event.Event.{Event}
use Rattle.pipe_model.specs.declared.event.Event.TheVariants.{Decide}
use Rattle.pipe_model.specs.declared.record.Record.{Record}
use Rattle.pipe_model.specs.Controller.{after_event, view}
use Rattle.pipe_model.specs.Items.{Overfills}
use Rattle.pipe_model.specs.View.{View}
use Rattle.pipe_net.specs.Waits.{Waits}
use Rattle.pipe_world.specs.declared.fault.StepFault.{StepFault}
use Rattle.pipe_world.specs.declared.fault.StepFault.TheVariants.{Full}
use Rattle.pipe_world.specs.declared.node.NodeState.{NodeState}
use Rattle.pipe_world.specs.Decision.{Decides, decided}
use Rattle.pipe_world.specs.History.{FullBy}
use Rattle.pipe_world.specs.Turn.{IsUndecided}
use Rattle.pipe_world.specs.World.{AddsEvent, RunsFor, Stands}
use Rattle.pipe_world.proofs.Decisions.{decided_runs, decided_step}
use Rattle.pipe_world.proofs.WorldSteps.{either_way, history_push, overfills, unchanged}
use Rattle.pipe_world.proofs.event.run_event.Goals as goal

-- after a decision that is refused all stands as before
refused_runs : (graph : Graph) (nodes : List NodeState) (lists left : Waits) (before after : Controller) (old new : List Record) → RunsFor graph nodes lists before old
    → new ≡ old → left ≡ lists → after ≡ before → RunsFor graph nodes left after new
refused_runs graph nodes lists left before after old new runs same waits kept = record {
  keeps = unchanged graph nodes lists left old new same waits runs.keeps;
  controller_is =
      subst (λ (trace : List Record). control.Stands graph (view graph (reverse trace)) after) (sym same)
      (subst (control.Stands graph (view graph (reverse old))) (sym kept) runs.controller_is);
}

undecided_of : (event : Event) → (event ≡ Decide → ⊥) → IsUndecided event
undecided_of Decide other = absurd (other refl)
undecided_of _ other = tt

-- after an event at the nodes the controller has heard what it brings
heard_runs : (graph : Graph) (nodes : List NodeState) (lists : Waits) (before after : Controller) (old new : List Record) (event : Event) (d : Record)
    → control.Stands graph (view graph (reverse old)) before → Stands graph nodes lists new → IsUndecided event → (added : AddsEvent old new event)
    → ((g : Graph) (v : View) → IsUndecided (get_or new (length old) d).event → control.Stands g v before
    → control.Stands g (after_event g (get_or new (length old) d).event (get_or new (length old) d).took (get_or new (length old) d).step.outcome v) after)
    → RunsFor graph nodes lists after new
heard_runs graph nodes lists before after old new event d knows keeps undecided added hears = record {
  keeps = keeps;
  controller_is =
      subst (λ (past : List Record). control.Stands graph (view graph past) after) (sym (ap reverse added.appended ∙ history_push old added.added))
      (subst (λ (r : Record). control.Stands graph (after_event graph r.event r.took r.step.outcome (view graph (reverse old))) after) read
      (hears graph (view graph (reverse old)) (subst (λ (r : Record). IsUndecided r.event) (sym read) (subst IsUndecided (sym added.event_is) undecided)) knows));
}
  where
    read : get_or new (length old) d ≡ added.added
    read = ap (λ (rs : List Record). get_or rs (length old) d) added.appended ∙ get_or_push old added.added d (length old) refl

pub returns-in-Decide-clause-ok : goal.returns-in-Decide-clause-ok
returns-in-Decide-clause-ok c =
    let graph : Graph = c.args.topology.now in
    let v : View = view graph (reverse c.args.history.now) in
    on_ok_weaker c.decide.result
    (λ (done : (w : View) → control.Stands graph w c.args.controller.now
    → Decides graph w c.args.queues.now c.decide.new.queues c.decide.new.controller c.args.history.now c.decide.new.history).
    let decides = done v c.requires.runs.controller_is in
    record { added = decided graph v; appended = decides.appended; event_is = sym c.in-Decide.is })
    c.decide.ensures.ok

pub returns-in-Decide-clause-full : goal.returns-in-Decide-clause-full
returns-in-Decide-clause-full c =
    let graph : Graph = c.args.topology.now in
    let trace : List Record = c.args.history.now in
    let v : View = view graph (reverse trace) in
    IfErr-weaker c.decide.result
    (λ (fault : StepFault). (w : View) → control.Stands graph w c.args.controller.now → FullBy trace (decided graph w) fault)
    (λ (fault : StepFault). (items : ℕ) → fault ≡ Full items → Overfills graph trace c.args.event items)
    (λ fault full items is.
    overfills graph trace (decided graph v) c.args.event items c.requires.runs.keeps.rules (decided_step graph (reverse trace)) (sym c.in-Decide.is)
    (full v c.requires.runs.controller_is items is))
    c.decide.ensures.full

pub returns-in-Decide-clause-runs : goal.returns-in-Decide-clause-runs
returns-in-Decide-clause-runs c =
    let graph : Graph = c.args.topology.now in
    let nodes : List NodeState = c.args.nodes.now in
    let old : List Record = c.args.history.now in
    let new : List Record = c.decide.new.history in
    either_way c.decide.result
    ((w : View) → control.Stands graph w c.args.controller.now → Decides graph w c.args.queues.now c.decide.new.queues c.decide.new.controller old new)
    ((new ≡ old) × (c.decide.new.queues ≡ c.args.queues.now) × (c.decide.new.controller ≡ c.args.controller.now))
    (RunsFor graph nodes c.decide.new.queues c.decide.new.controller new)
    c.decide.ensures.ok c.decide.ensures.err
    (λ done.
    decided_runs graph nodes c.args.queues.now c.decide.new.queues c.args.controller.now c.decide.new.controller old new c.requires.runs
    (done (view graph (reverse old)) c.requires.runs.controller_is))
    (λ same.
    refused_runs graph nodes c.args.queues.now c.decide.new.queues c.args.controller.now c.decide.new.controller old new c.requires.runs same.0 same.1 same.2)

pub returns : goal.returns
returns c =
    let old : List Record = c.args.history.now in
    let new : List Record = c.happen.new.history in
    let read : c.index-as_slice-at.result ≡ get_or new (length old) c.index-as_slice-at.result =
    c.index-as_slice-at.is
    ∙ ap (λ (rs : List Record). get_or rs c.len-at.result c.index-as_slice-at.result) (c.as_slice.ensures ∙ c.trace-2.ensures.trace)
    ∙ ap (λ (n : ℕ). get_or new n c.index-as_slice-at.result) (c.len-at.ensures ∙ ap length c.trace.ensures.trace) in
    record {
      ok = c.in_ok-happen.ensures.ok;
      err = tt;
      full = tt;
      within = c.trace-2.ensures.within;
      runs =
          heard_runs c.args.topology.now c.happen.new.nodes c.happen.new.queues c.args.controller.now c.hear.new.controller old new c.args.event c.index-as_slice-at.result
          c.requires.runs.controller_is c.happen.ensures.stands (undecided_of c.args.event c.in_default.not-Decide) c.in_ok-happen.ensures.ok
          (subst (λ (r : Record). (g : Graph) (v : View) → IsUndecided r.event → control.Stands g v c.args.controller.now
          → control.Stands g (after_event g r.event r.took r.step.outcome v) c.hear.new.controller) read c.hear.ensures);
    }
