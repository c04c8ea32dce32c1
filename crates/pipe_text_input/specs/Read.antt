-- An input as it was read.
use Rattle.std.specs.Prelude.{◌≡◌, All, Result, Ok}
use Rattle.pipe_graph.specs.Reach.{JoinsAllHosts}
use Rattle.pipe_topo.specs.Plan.{IsPlan, graph_of}
use Rattle.pipe_model.specs.Event.{IsOfGraph}
use Rattle.pipe_text_input.specs.declared.input.Input.{Input}
use Rattle.pipe_text_input.specs.declared.input.InputFault.{InputFault}
use Rattle.pipe_text_input.specs.Content.{Content}

-- Names, plan and events are what was said, the topology is the plan's, and the events can happen in it.
pub record IsRead (says : Result Content InputFault) (input : Input) : Type 0 where
  pub content : says ≡ Ok (record { names = input.names; plan = input.plan; events = input.events })
  pub built : input.topology ≡ graph_of input.plan
  pub small : IsPlan input.plan
  pub joined : JoinsAllHosts input.topology
  pub known : All (IsOfGraph input.topology) input.events
