-- All that the channel promises of every run, put together.
use Rattle.std.proofs.Common.{◌≡◌, ◌≤◌, List, [], ◌∷◌, reverse, refl, ap, ◌∙◌}
use Rattle.pipe_base.specs.declared.step.Outcome.{Outcome}
use Rattle.pipe_base.specs.declared.step.Step.{Step}
use Rattle.pipe_base.specs.Limits.{most_items}
use Rattle.pipe_graph.specs.Graph.{Graph}
use Rattle.pipe_graph.specs.Reach.{JoinsAllHosts}
use Rattle.pipe_model.specs.declared.event.Event.{Event}
use Rattle.pipe_model.specs.declared.event.Event.TheVariants.{Send, Tick, Take, Lose, ControlTake, ControlLose, Decide, Crash, Cut}
use Rattle.pipe_model.specs.declared.record.Record.{Record}
use Rattle.pipe_model.specs.Acting.{own}
use Rattle.pipe_model.specs.Controller.{nobodys_step, view}
use Rattle.pipe_model.specs.View.{View}
use Rattle.pipe_model.specs.Items.{items_of}
use Rattle.pipe_model.specs.NeverLate.{AreOfGraph, IsOfOldest}
use Rattle.pipe_model.specs.Order.{AreLogsOrdered, AreStampsCausal}
use Rattle.pipe_model.specs.OrderedRun.{IsOrderedRun}
use Rattle.pipe_model.specs.Run.{IsHistory, IsRun}
use Rattle.pipe_model.proofs.Own.{node_history}
use Rattle.pipe_model_node.proofs.Causal.{node_causal}
use Rattle.pipe_model_node.proofs.Ordered.{node_ordered}
use Rattle.pipe_model.specs.OnTime.{IsLoggedOnTime}
use Rattle.pipe_model_net.proofs.Events.{of_history}
use Rattle.pipe_model_net.proofs.Genuine.{run_genuine}
use Rattle.pipe_model_net.proofs.NeverLate.{never_late}
use Rattle.pipe_model_atomic.proofs.AllOrNone.{all_or_none}
use Rattle.pipe_model_atomic.proofs.LateMessage.{none_late}

run_ordered : (graph : Graph) (past : List Record) → IsHistory graph past → AreLogsOrdered graph past
run_ordered graph past run = λ host known service. node_ordered service graph host (own graph host past) (node_history graph host past run)

-- what no node does logs nothing
logs_nothing : (graph : Graph) (v : View) (event : Event) (outcome : Outcome) → (nobodys_step graph v event outcome).logged ≡ []
logs_nothing graph v (Send host service now dests) outcome = refl
logs_nothing graph v (Tick node now) outcome = refl
logs_nothing graph v (Take link place keep) outcome = refl
logs_nothing graph v (Lose link place) outcome = refl
logs_nothing graph v (ControlTake place keep) outcome = refl
logs_nothing graph v (ControlLose place) outcome = refl
logs_nothing graph v Decide outcome = refl
logs_nothing graph v (Crash node) outcome = refl
logs_nothing graph v (Cut link) outcome = refl

run_on_time : (graph : Graph) (past : List Record) → IsHistory graph past → IsLoggedOnTime graph past
run_on_time graph [] run = tt
run_on_time graph (r ∷ past) run = (
  run_on_time graph past run.0,
  λ n mine. (run.1.node n mine).logged_is,
  λ nobody. ap (λ (s : Step). s.logged) (run.1.nobodys nobody) ∙ logs_nothing graph (view graph past) r.event r.step.outcome,
)

run_causal : (graph : Graph) (past : List Record) → IsHistory graph past → AreStampsCausal graph past
run_causal graph past run = λ host known. node_causal graph host (own graph host past) (node_history graph host past run)

pub ordered_run : (graph : Graph) (events : List Event) (trace : List Record) → JoinsAllHosts graph → AreOfGraph graph (reverse trace) → items_of trace ≤ most_items
    → IsRun graph events trace → IsOrderedRun graph events trace
ordered_run graph events trace joined names within run =
    let past : List Record = reverse trace in
    record {
      run = run;
      within = within;
      ordered = run_ordered graph past run.rules;
      causal = run_causal graph past run.rules;
      genuine = run_genuine graph past run.rules;
      on_time = run_on_time graph past run.rules;
      never_late = λ oldest. never_late graph past run.rules names (of_history IsOfOldest events trace run.events_are oldest);
      all_or_none = all_or_none graph past joined run.rules;
      none_late = none_late graph past joined run.rules names;
    }
