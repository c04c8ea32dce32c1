use Rattle.std.proofs.Common.{◌≡◌, [], ◌∷◌, ◌<◌, ◌++◌, length, refl, subst, sym, ap, ◌∙◌, arith}
use Rattle.std.proofs.lemmas.List.Elements.{All-nil}
use Rattle.pipe_base.specs.declared.name.LinkId.{LinkId}
use Rattle.pipe_base.specs.declared.packet.Packet.{Packet}
use Rattle.pipe_base.specs.declared.step.Step.{Step}
use Rattle.pipe_graph.specs.Graph.{Graph}
use Rattle.pipe_control.specs.declared.controller.Controller.{Controller}
use Rattle.pipe_control.specs.Known as control
use Rattle.pipe_control.specs.Known.{Fits, view_of}
use Rattle.pipe_model.specs.declared.event.Event.TheVariants.{Decide}
use Rattle.pipe_model.specs.declared.record.Record.{Record}
use Rattle.pipe_model.specs.declared.record.Took.TheVariants.{Nothing}
use Rattle.pipe_model.specs.Controller.{decision}
use Rattle.pipe_model.specs.Decision.{after_decision}
use Rattle.pipe_model.specs.Items.{IsOver}
use Rattle.pipe_world.specs.Decision.{decided}
use Rattle.pipe_model.specs.Records.{record_of}
use Rattle.pipe_world.specs.Queues.{AreKnown, Stand}
use Rattle.pipe_world.proofs.Decisions.{messages_few}
use Rattle.pipe_world.proofs.event.decide.Goals as goal

-- a controller stands for what it knows
itself : (graph : Graph) (k : Controller) → Fits graph k → control.Stands graph (view_of k) k
itself graph k fits = record { fits = fits; known = refl }

pub enter-requires-clause-known : goal.enter-requires-clause-known
enter-requires-clause-known c =
    let is = c.in-Ok.ensures.step (view_of c.args.controller.now) (itself c.args.topology.now c.args.controller.now c.requires.fits) in
    subst (λ (s : Step). AreKnown (length c.args.queues.now.lines) s.put) (sym is) (All-nil (λ (p : LinkId × Packet). p.0.0 < length c.args.queues.now.lines))

pub enter-requires-clause-few : goal.enter-requires-clause-few
enter-requires-clause-few c =
    let graph = c.args.topology.now in
    let v = view_of c.args.controller.now in
    let is : c.in-Ok.step ≡ decision graph v = c.in-Ok.ensures.step v (itself graph c.args.controller.now c.requires.fits) in
    omega (
      arith,
      ap (λ (s : Step). length s.put) is,
      ap (λ (s : Step). length s.control) is,
      messages_few graph (after_decision graph v),
      c.requires.few_links,
      c.requires.few_hosts,
      c.requires.few_nodes,
    )

pub returns-in-Ok-enter-clause-ok : goal.returns-in-Ok-enter-clause-ok
returns-in-Ok-enter-clause-ok c = λ v stands.
    let graph = c.args.topology.now in
    let is : record_of Decide Nothing c.in-Ok.step ≡ decided graph v = ap (record_of Decide Nothing) (c.in-Ok.ensures.step v stands) in
    record {
      appended = c.in-Ok-enter.ensures.ok ∙ ap (λ (r : Record). c.args.history.now ++ r ∷ []) is;
      queues_stand = λ past waits. subst (λ (r : Record). Stand graph c.enter.new.queues (r ∷ past)) is (c.in-Ok-enter.ensures.queues_ok graph past waits);
      controller_is = c.follow.ensures graph v stands (c.in-Ok.ensures.change v stands);
    }

pub returns-in-Err-clause-full : goal.returns-in-Err-clause-full
returns-in-Err-clause-full c = λ v stands items full.
    subst (λ (r : Record). IsOver c.args.history.now r items) (ap (record_of Decide Nothing) (c.in-Ok.ensures.step v stands)) (c.in-Err.ensures.full items full)
