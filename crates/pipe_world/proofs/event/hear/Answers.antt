use Rattle.std.proofs.Common.{◌≡◌, ℕ, Bool, sym, subst, ap, ◌∙◌}
use Rattle.pipe_base.specs.declared.control.Addressed.{Addressed}
use Rattle.pipe_base.specs.declared.control.To.{To}
use Rattle.pipe_base.specs.declared.control.To.TheVariants.{Controller}
use Rattle.pipe_base.specs.declared.step.Outcome.{Outcome}
use Rattle.pipe_graph.specs.Graph.{Graph}
use Rattle.pipe_control.specs.Known as control
use Rattle.pipe_model.specs.declared.event.Event.{Event}
use Rattle.pipe_model.specs.declared.event.Event.TheVariants.{ControlTake}
use Rattle.pipe_model.specs.declared.record.Took.{Took}
use Rattle.pipe_model.specs.declared.record.Took.TheVariants.{Message}
use Rattle.pipe_model.specs.Controller.{after_addressed, after_event}
use Rattle.pipe_model.specs.View.{View, after_message}
use Rattle.pipe_world.proofs.event.hear.Goals as goal

heard : (graph : Graph) (v : View) (event : Event) (took : Took) (outcome : Outcome) (place : ℕ) (keep : Bool) (a : Addressed) → event ≡ ControlTake place keep → took ≡ Message a
    → a.to ≡ Controller → after_message graph a.control v ≡ after_event graph event took outcome v
heard graph v event took outcome place keep a event_is took_is to_is =
    ap (λ (to : To). after_addressed graph to a.control v) (sym to_is)
    ∙ ap (λ (t : Took). after_event graph (ControlTake place keep) t outcome v) (sym took_is)
    ∙ ap (λ (e : Event). after_event graph e took outcome v) (sym event_is)

pub returns-in-Controller : goal.returns-in-Controller
returns-in-Controller c = λ graph v undecided stands.
    let at = c.in-ControlTake-Message in
    subst (λ (w : View). control.Stands graph w c.take.new.self)
    (heard graph v c.args.made.now.event c.args.made.now.took c.args.made.now.step.outcome at.place-0 at.keep-0 at.addressed at.is-0 at.is-1 c.in-Controller.is) (c.take.ensures graph v stands)
