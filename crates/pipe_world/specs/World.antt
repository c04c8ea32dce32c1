-- What the world is seen as, what it keeps, and what an event adds.
use Rattle.std.specs.Prelude.{◌≡◌, ◌≢◌, ℕ, ◌<◌, ◌≤◌, true, false, List, [], ◌∷◌, ◌++◌, length, reverse, slice_index_or}
use Rattle.pipe_graph.specs.Graph.{Graph, IsGraph, is_half, is_host}
use Rattle.pipe_graph.specs.Reach.{JoinsAllHosts}
use Rattle.pipe_control.specs.declared.controller.Controller.{Controller}
use Rattle.pipe_control.specs.Known as control
use Rattle.pipe_model.specs.declared.event.Event.{Event}
use Rattle.pipe_model.specs.declared.record.Record.{Record}
use Rattle.pipe_model.specs.Acting.{is_own, own}
use Rattle.pipe_model.specs.Controller.{view}
use Rattle.pipe_model.specs.Items.{IsOver}
use Rattle.pipe_model.specs.NeverLate.{AreOfGraph}
use Rattle.pipe_model.specs.Outcome.{is_crash_of}
use Rattle.pipe_model.specs.Run.{IsHistory, IsNodeHistory, IsStep}
use Rattle.pipe_net.specs.Waits.{Waits}
use Rattle.pipe_world.specs.declared.node.Node.{Node}
use Rattle.pipe_world.specs.declared.node.NodeState.{NodeState}
use Rattle.pipe_base.specs.Limits.{most_nodes, most_links}
use Rattle.pipe_world.specs.Node as node
use Rattle.pipe_world.specs.Queues as queues

-- a world: its network and all that has happened, the oldest record first
pub record GraphAndTrace : Type 0 where
  pub graph : Graph
  pub trace : List Record

-- what is kept is what the rules say after the history, and the history is one, of events of the network
pub record Keeps (graph : Graph) (nodes : List NodeState) (waits : Waits) (past : List Record) : Type 0 where
  pub is_graph : IsGraph graph
  pub joined : JoinsAllHosts graph
  pub few_links : length graph.links ≤ most_links
  pub few_nodes : graph.nodes ≤ most_nodes
  pub count : length nodes ≡ graph.nodes
  pub nodes_are : (n : ℕ) (d : NodeState) → n < graph.nodes → node.StandsIn graph n past (slice_index_or nodes n d)
  pub queues_are : queues.Stand graph waits past
  pub rules : IsHistory graph past
  pub names : AreOfGraph graph past

abbrev pub Stands : Graph → List NodeState → Waits → List Record → Type 0
Stands graph nodes waits trace = Keeps graph nodes waits (reverse trace)

-- the same, and the controller knows what the rules say after the history
pub record Runs (graph : Graph) (nodes : List NodeState) (waits : Waits) (controller : Controller) (past : List Record) : Type 0 where
  pub keeps : Keeps graph nodes waits past
  pub controller_is : control.Stands graph (view graph past) controller

abbrev pub RunsFor : Graph → List NodeState → Waits → Controller → List Record → Type 0
RunsFor graph nodes waits controller trace = Runs graph nodes waits controller (reverse trace)

-- among what is kept for nodes is a host, which stands for its own records of the history
pub record HasHost (graph : Graph) (nodes : List NodeState) (past : List Record) (host : ℕ) : Type 0 where
  pub known : host < length nodes
  pub is_a_host : is_host graph host ≡ true
  pub stands : (d : NodeState) → node.Stands graph host (own graph host past) (slice_index_or nodes host d).node

-- the same for a half
pub record HasHalf (graph : Graph) (nodes : List NodeState) (past : List Record) (half : ℕ) : Type 0 where
  pub known : half < length nodes
  pub is_a_half : is_half graph half ≡ true
  pub stands : (d : NodeState) → node.Stands graph half (own graph half past) (slice_index_or nodes half d).node

-- one record of the event was appended
pub record AddsEvent (old new : List Record) (event : Event) : Type 0 where
  pub added : Record
  pub appended : new ≡ old ++ added ∷ []
  pub event_is : added.event ≡ event

-- what is kept stands for some own records of the node, each of which is what the node owed, in an event of the network
pub record StandsForSome (graph : Graph) (id : ℕ) (k : Node) : Type 0 where
  pub own : List Record
  pub stands : node.Stands graph id own k
  pub rules : IsNodeHistory graph id own
  pub names : AreOfGraph graph own

-- an event at a node: its record is what the rules say, and what is kept follows it
pub record Adds (graph : Graph) (id : ℕ) (before after : NodeState) (waits left : Waits) (r : Record) : Type 0 where
  pub rules : (past : List Record) → IsHistory graph past → node.StandsIn graph id past before
      → queues.Stand graph waits past → IsStep graph past r
  pub node_stands : (past : List Record) → node.StandsIn graph id past before → node.StandsIn graph id (r ∷ past) after
  pub others : (n : ℕ) → n ≢ id → is_own graph n r ≡ false
  pub others_live : (n : ℕ) → n ≢ id → is_crash_of n r.event ≡ false
  pub queues_stand : (past : List Record) → queues.Stand graph waits past → queues.Stand graph left (r ∷ past)

-- a node that worked out a step which is refused stands as before
abbrev pub Restores : Graph → ℕ → NodeState → NodeState → Type 0
Restores graph id before after = (past : List Record) → node.StandsIn graph id past before
    → node.StandsIn graph id past after

-- an event at a node: with the record that the rules give it, too much would be put
pub record WouldOverfill (graph : Graph) (id : ℕ) (before : NodeState) (waits : Waits) (trace : List Record) (event : Event) (items : ℕ) : Type 0 where
  pub next : Record
  pub event_is : next.event ≡ event
  pub rules : (past : List Record) → IsHistory graph past → node.StandsIn graph id past before
      → queues.Stand graph waits past → IsStep graph past next
  pub over : IsOver trace next items

-- an event that changes no node: its record was appended, and what waits follows it
pub record PassesBy (waits left : Waits) (old new : List Record) (r : Record) : Type 0 where
  pub appended : new ≡ old ++ r ∷ []
  pub queues_stand : (graph : Graph) (past : List Record) → queues.Stand graph waits past
      → queues.Stand graph left (r ∷ past)

-- the world after an event: the same network, and one record of the event more
pub record Extends (old new : GraphAndTrace) (event : Event) : Type 0 where
  pub graph_is : new.graph ≡ old.graph
  pub adds : AddsEvent old.trace new.trace event
