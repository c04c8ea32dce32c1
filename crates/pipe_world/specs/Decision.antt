-- A decision of the controller in a run.
use Rattle.std.specs.Prelude.{◌≡◌, List, [], ◌∷◌, ◌++◌}
use Rattle.pipe_graph.specs.Graph.{Graph}
use Rattle.pipe_control.specs.declared.controller.Controller.{Controller}
use Rattle.pipe_control.specs.Known as control
use Rattle.pipe_model.specs.declared.event.Event.TheVariants.{Decide}
use Rattle.pipe_model.specs.declared.record.Record.{Record}
use Rattle.pipe_model.specs.declared.record.Took.TheVariants.{Nothing}
use Rattle.pipe_model.specs.Controller.{decision}
use Rattle.pipe_model.specs.Decision.{after_decision}
use Rattle.pipe_model.specs.View.{View}
use Rattle.pipe_net.specs.Waits.{Waits}
use Rattle.pipe_model.specs.Records.{record_of}
use Rattle.pipe_world.specs.Queues as queues

-- the record of a decision
abbrev pub decided : Graph → View → Record
decided graph v = record_of Decide Nothing (decision graph v)

-- the record of a decision was appended; what waits follows it, and so does what the controller knows
pub record Decides (graph : Graph) (v : View) (waits left : Waits) (after : Controller) (old new : List Record) : Type 0 where
  pub appended : new ≡ old ++ decided graph v ∷ []
  pub queues_stand : (past : List Record) → queues.Stand graph waits past
      → queues.Stand graph left (decided graph v ∷ past)
  pub controller_is : control.Stands graph (after_decision graph v) after
