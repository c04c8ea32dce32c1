-- What an input says has a network, in which each of its events can happen.
use Rattle.std.proofs.Common.{ℕ, nat_lt, Bool, true, false, if◌then◌else◌, List, All, Option, None, Some, Result, Ok, Err}
use Rattle.std.specs.Result.{IfOk}
use Rattle.std.specs.Str.Lines.{lines}
use Rattle.pipe_base.specs.Limits.{most_events}
use Rattle.pipe_model.specs.declared.event.Event.{Event}
use Rattle.pipe_text.specs.declared.kind.LineKind.{LineKind}
use Rattle.pipe_topo.specs.Plan.{graph_of}
use Rattle.pipe_topo.proofs.FaultLaws.{no_fault_joins}
use Rattle.pipe_topo.proofs.FedLaws.{no_fault_fed}
use Rattle.pipe_topo.proofs.LinkLaws.{plan_is_graph}
use Rattle.pipe_text_plan.specs.declared.fault.PlanFault.{PlanFault}
use Rattle.pipe_text_plan.specs.Counted.{lines_read}
use Rattle.pipe_text_plan.specs.Described.{Described, described_by}
use Rattle.pipe_text_plan.specs.Division.{Division, division_of}
use Rattle.pipe_text_plan.proofs.PlanLaws.{IsRight, described_right}
use Rattle.pipe_model.specs.Event.{IsOfGraph}
use Rattle.pipe_text_schedule.specs.Schedule.{schedule_of}
use Rattle.pipe_text_schedule.proofs.HappenLaws.{schedule_happens}
use Rattle.pipe_text_input.specs.declared.input.InputFault.TheVariants as fault
use Rattle.pipe_text_input.specs.Content.{scheduled, planned, divided, content_of}
use Rattle.pipe_text_input.specs.Network.{HasNetwork}

scheduled_right : (described : Described) (events : Result (List Event) (ℕ × LineKind)) → IsRight described
    → IfOk events (All (IsOfGraph (graph_of described.plan))) → IfOk (scheduled described events) HasNetwork
scheduled_right described (Err bad) right known = tt
scheduled_right described (Ok events) right known = record {
  small = right.plan;
  faultless = right.faultless;
  names = right.names;
  range = right.range;
  some = (no_fault_fed described.plan right.plan right.faultless).some;
  graph = plan_is_graph described.plan right.plan;
  joined = no_fault_joins described.plan right.plan right.faultless;
  known = known;
}

planned_right : (division : Division) (described : Result Described PlanFault) → IfOk described IsRight → IfOk (planned division described) HasNetwork
planned_right division (Err bad) right = tt
planned_right division (Ok described) right =
    scheduled_right described (schedule_of (graph_of described.plan) described.names division.line (lines division.rest)) right
    (schedule_happens (graph_of described.plan) described.names division.line (lines division.rest))

divided_right : (division : Option Division) → IfOk (divided division) HasNetwork
divided_right None = tt
divided_right (Some division) = pick (nat_lt most_events (lines_read division.rest))
  where
    pick : (many : Bool) → IfOk (if many then Err (fault.TooManyEvents (lines_read division.rest)) else planned division (described_by division)) HasNetwork
    pick true = tt
    pick false = planned_right division (described_by division) (described_right division)

pub content_has_network : (bytes : List ℕ) → IfOk (content_of bytes) HasNetwork
content_has_network bytes = divided_right (division_of bytes)
