-- What decisions recorded as announced is what the controller knows as announced.
use Rattle.std.proofs.Common.{◌≡◌, ℕ, ◌&&◌, not, false, List, [], ◌∷◌, ◌++◌, refl, ap, subst, ◌∙◌}
use Rattle.std.proofs.lemmas.List.{append-nil}
use Rattle.pipe_base.specs.declared.control.Announced.{Announced}
use Rattle.pipe_base.specs.declared.step.Step.{Step}
use Rattle.pipe_base.specs.Failed.{is_announced}
use Rattle.pipe_graph.specs.Graph.{Graph}
use Rattle.pipe_model.specs.declared.event.Event.{Event}
use Rattle.pipe_model.specs.declared.event.Event.TheVariants.{ControlTake, Decide}
use Rattle.pipe_model.specs.declared.record.Record.{Record}
use Rattle.pipe_model.specs.declared.record.Took.{Took}
use Rattle.pipe_model.specs.Acting.{acts, is_idle}
use Rattle.pipe_model.specs.Controller.{after_event, announced, nobodys_step, view}
use Rattle.pipe_model.specs.Correct.{IsCorrect, announced_by, announced_in}
use Rattle.pipe_model.specs.Decision.{after_doom, newly_announced}
use Rattle.pipe_model.specs.Run.{IsHistory}
use Rattle.pipe_model.specs.View.{View}
use Rattle.pipe_model_atomic.proofs.Views.{decision_after, untold, view_after}

announces : (graph : Graph) (event : Event) (took : Took) (step : Step) (v : View) → (event ≡ Decide → step.noted ≡ newly_announced graph (after_doom graph v))
    → v.announced ++ announced_by event step ≡ (after_event graph event took step.outcome v).announced
announces graph Decide took step v noted =
    let all : v.announced ++ step.noted ≡ v.announced ++ newly_announced graph (after_doom graph v) = ap (λ (l : List Announced). v.announced ++ l) (noted refl) in
    decision_after (λ (w : View). v.announced ++ step.noted ≡ w.announced) graph v all (λ over. all)
announces graph (ControlTake place keep) took step v noted =
    append-nil v.announced
    ∙ view_after (λ (w : View). v.announced ≡ w.announced) graph (ControlTake place keep) took step.outcome v
    (untold (λ (w : View). v.announced ≡ w.announced) v took (λ link value. refl) (λ host count. refl) (λ node count. refl)) (λ decides. cc) refl
announces graph _ took step v noted = append-nil v.announced

pub announced_recorded : (graph : Graph) (past : List Record) → IsHistory graph past → announced_in past ≡ announced graph past
announced_recorded graph [] run = refl
announced_recorded graph (r ∷ past) run =
    ap (λ (l : List Announced). l ++ announced_by r.event r.step) (announced_recorded graph past run.0)
    ∙ announces graph r.event r.took r.step (view graph past)
    (λ decides.
    ap (λ (s : Step). s.noted) (run.1.nobodys (λ n. ap (λ (e : Event). acts graph n e r.took && not (is_idle r.step.outcome)) decides))
    ∙ ap (λ (e : Event). (nobodys_step graph (view graph past) e r.step.outcome).noted) decides)

-- who is correct is not known as announced
pub trusted_is : (graph : Graph) (past : List Record) (host : ℕ) → IsHistory graph past → IsCorrect graph past host → is_announced host (announced graph past) ≡ false
trusted_is graph past host run correct = subst (λ (l : List Announced). is_announced host l ≡ false) (announced_recorded graph past run) correct.trusted
