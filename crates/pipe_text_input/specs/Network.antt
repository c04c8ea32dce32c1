-- The network of an input.
use Rattle.std.specs.Prelude.{◌≡◌, ◌<◌, All, None}
use Rattle.pipe_graph.specs.Graph.{IsGraph}
use Rattle.pipe_graph.specs.Reach.{JoinsAllHosts}
use Rattle.pipe_topo.specs.Fault.{fault_of}
use Rattle.pipe_topo.specs.Plan.{IsPlan, graph_of}
use Rattle.pipe_model.specs.Event.{IsOfGraph}
use Rattle.pipe_text_plan.specs.HasNames.{HasNodeNames, IsInRange}
use Rattle.pipe_text_input.specs.Content.{Content}

-- The plan is within the limits and has no fault, its nodes have names, its levels and patience are in their ranges, it has
-- a host, its links join its nodes, its hosts reach each other, and each event is one of this network.
pub record HasNetwork (content : Content) : Type 0 where
  pub small : IsPlan content.plan
  pub faultless : fault_of content.plan ≡ None
  pub names : HasNodeNames content.names content.plan
  pub range : IsInRange content.plan
  pub some : 0 < content.plan.hosts
  pub graph : IsGraph (graph_of content.plan)
  pub joined : JoinsAllHosts (graph_of content.plan)
  pub known : All (IsOfGraph (graph_of content.plan)) content.events
