use Rattle.std.proofs.Common.{◌≡◌, List, ap, subst, ◌∙◌}
use Rattle.pipe_model.specs.OrderedRun.{IsOrderedRun}
use Rattle.pipe_model.specs.declared.event.Event.{Event}
use Rattle.pipe_world.specs.World.{GraphAndTrace}
use Rattle.pipe_cli.proofs.AnswerLaws.{overfull, replayed}
use Rattle.pipe_cli.proofs.replay.run_input.Goals as goal

pub returns-in-Ok-show-clause-ok : goal.returns-in-Ok-show-clause-ok
returns-in-Ok-show-clause-ok c = λ bytes few read.
    let after = c.in-Ok-run_all.world in
    let graph_is : after.graph ≡ c.args.input.topology = c.in-Ok-run_all.ensures.graph ∙ ap (λ (w : GraphAndTrace). w.graph) c.in-Ok.ensures in
    replayed c.args.form bytes c.in-Ok-show.done.text c.args.input after.graph c.in-Ok-show.done.trace few read graph_is
    (subst (λ (events : List Event). IsOrderedRun after.graph events c.in-Ok-show.done.trace) c.in-Ok-run_all.ensures.ran c.in-Ok-show.ensures.run)
    c.in-Ok-show.ensures.text

pub returns-clause-err : goal.returns-clause-err
returns-clause-err c = λ bytes few read.
    rw c.in-Err-Full.field-0-is
    (overfull bytes c.args.input c.in-Ok.world.graph c.in-Err-Full.items few read (ap (λ (w : GraphAndTrace). w.graph) c.in-Ok.ensures)
    (c.in-Err-Full.ensures.stopped c.in-Err-Full.items c.in-Err-Full.field-0-is))
