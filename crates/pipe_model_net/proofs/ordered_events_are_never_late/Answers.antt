use Rattle.std.proofs.Common.{reverse}
use Rattle.pipe_model.specs.Event.{IsOfGraph}
use Rattle.pipe_model.specs.NeverLate.{IsOfOldest}
use Rattle.pipe_model_net.proofs.Events.{of_history}
use Rattle.pipe_model_net.proofs.NeverLate.{never_late}
use Rattle.pipe_model_net.proofs.ordered_events_are_never_late.Goals as goal

pub returns : goal.returns
returns c = λ graph events trace run known ordered.
    never_late graph (reverse trace) run.rules (of_history (IsOfGraph graph) events trace run.events_are known)
    (of_history IsOfOldest events trace run.events_are ordered)
