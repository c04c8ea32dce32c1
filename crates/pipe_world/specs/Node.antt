-- What is kept for a node: a host or a half, and what it stands for.
use Rattle.std.specs.Prelude.{◌≡◌, ℕ, List}
use Rattle.pipe_base.specs.declared.name.NodeId.{NodeId}
use Rattle.pipe_base.specs.declared.step.Step.{Step}
use Rattle.pipe_graph.specs.Graph.{Graph}
use Rattle.pipe_host.specs.Host as host
use Rattle.pipe_model.specs.declared.event.Event.{Event}
use Rattle.pipe_model.specs.declared.event.Event.TheVariants.{Crash}
use Rattle.pipe_model.specs.declared.record.Record.{Record}
use Rattle.pipe_model.specs.declared.record.Took.{Took}
use Rattle.pipe_model.specs.declared.record.Took.TheVariants.{Nothing}
use Rattle.pipe_model.specs.Acting.{own}
use Rattle.pipe_model.specs.Outcome.{has_crashed}
use Rattle.pipe_model.specs.Run.{IsNodeStep}
use Rattle.pipe_switch.specs.Half as half
use Rattle.pipe_world.specs.declared.node.Node.{Node}
use Rattle.pipe_world.specs.declared.node.Node.TheVariants.{Host, Half}
use Rattle.pipe_world.specs.declared.node.NodeState.{NodeState}

-- it stands for the node's own records
abbrev pub Stands : Graph → ℕ → List Record → Node → Type 0
Stands graph node own (Host h) = host.Stands graph node own h
Stands graph node own (Half h) = half.Stands graph node own h

-- the same while a record is worked out: what the record brings, sends or makes known is held, begun or set aside already
abbrev pub StandsWith : Graph → ℕ → List Record → Record → Node → Type 0
StandsWith graph node own r (Host h) = host.StandsWith graph node own r h
StandsWith graph node own r (Half h) = half.StandsWith graph node own r h

-- what is kept of a node after a history: it stands for the node's own records, and says whether the node has crashed
pub record StandsIn (graph : Graph) (node : ℕ) (past : List Record) (k : NodeState) : Type 0 where
  pub node_stands : Stands graph node (own graph node past) k.node
  pub crashed_is : k.crashed ≡ has_crashed node past

-- The record is what the node owes, and the node is ready to follow it.
pub record Works (graph : Graph) (node : ℕ) (own : List Record) (r : Record) (new : Node) : Type 0 where
  pub rules : IsNodeStep graph node own r
  pub stands : StandsWith graph node own r new
