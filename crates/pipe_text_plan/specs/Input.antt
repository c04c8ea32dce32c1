-- An input as it was read.
use Rattle.std.specs.Prelude.{◌≡◌, Result, Ok}
use Rattle.pipe_graph.specs.Reach.{JoinsAllHosts}
use Rattle.pipe_topo.specs.Plan.{IsPlan, graph_of}
use Rattle.pipe_text_plan.specs.declared.fault.PlanFault.{PlanFault}
use Rattle.pipe_text_plan.specs.declared.read.PlanInput.{PlanInput}
use Rattle.pipe_text_plan.specs.Described.{Described}
use Rattle.pipe_text_plan.specs.Views.{described_view}

-- names and plan are what is described, and the topology is the plan's
pub record IsInput (says : Result Described PlanFault) (input : PlanInput) : Type 0 where
  pub described : says ≡ Ok (described_view input)
  pub built : input.topology ≡ graph_of input.plan
  pub small : IsPlan input.plan
  pub joined : JoinsAllHosts input.topology
