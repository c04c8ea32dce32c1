-- Whose turn it is in an event: which node acts and what is taken, or that no node does anything.
use Rattle.std.specs.Prelude.{◌≡◌, ℕ, ◌<◌, nat_lt, Bool, true, false, List, ◌∷◌, Option, None, Some, length, slice_get, slice_index_or}
use Rattle.pipe_base.specs.declared.control.Addressed.{Addressed}
use Rattle.pipe_base.specs.declared.control.Control.{Control}
use Rattle.pipe_base.specs.declared.control.To.{To}
use Rattle.pipe_base.specs.declared.control.To.TheVariants.{Controller, Node}
use Rattle.pipe_base.specs.declared.name.NodeId.{NodeId}
use Rattle.pipe_base.specs.declared.packet.Packet.{Packet}
use Rattle.pipe_base.specs.declared.step.Outcome.{Outcome}
use Rattle.pipe_graph.specs.Graph.{Graph, head_of}
use Rattle.pipe_base.specs.Step.{quiet_step}
use Rattle.pipe_model.specs.declared.event.Event.{Event}
use Rattle.pipe_model.specs.declared.event.Event.TheVariants.{Send, Tick, Take, Lose, ControlTake, ControlLose, Decide, Crash, Cut}
use Rattle.pipe_model.specs.declared.record.Record.{Record}
use Rattle.pipe_model.specs.declared.record.Took.{Took}
use Rattle.pipe_model.specs.declared.record.Took.TheVariants.{Nothing, Link, Message}
use Rattle.pipe_model.specs.Acting.{is_own}
use Rattle.pipe_model.specs.Event.{IsOfGraph}
use Rattle.pipe_model.specs.Outcome.{has_crashed, took_at, took_message}
use Rattle.pipe_model.specs.Run.{IsStep}
use Rattle.pipe_net.specs.Waits.{Waits, waiting}
use Rattle.pipe_world.specs.declared.node.Node.{Node as ANode}
use Rattle.pipe_world.specs.declared.node.NodeState.{NodeState}
use Rattle.pipe_world.specs.declared.turn.Turn.{Turn}
use Rattle.pipe_world.specs.declared.turn.Turn.TheVariants.{Passes, Acts}
use Rattle.pipe_world.specs.Node as node
use Rattle.pipe_model.specs.Records.{record_of}
use Rattle.pipe_world.specs.Queues.{IsInPlace}
use Rattle.pipe_world.specs.World.{Keeps}

-- an event that is no decision of the controller
abbrev pub IsUndecided : Event → Type 0
IsUndecided Decide = ⊥
IsUndecided (Send host service now dests) = Unit {0}
IsUndecided (Tick node now) = Unit {0}
IsUndecided (Take link place keep) = Unit {0}
IsUndecided (Lose link place) = Unit {0}
IsUndecided (ControlTake place keep) = Unit {0}
IsUndecided (ControlLose place) = Unit {0}
IsUndecided (Crash node) = Unit {0}
IsUndecided (Cut link) = Unit {0}

-- something waits at the place that the event names, if it names one
abbrev pub is_there : Waits → Event → Bool
is_there waits (Take link place keep) = nat_lt place (length (waiting link.0 waits))
is_there waits (Lose link place) = nat_lt place (length (waiting link.0 waits))
is_there waits (ControlTake place keep) = nat_lt place (length waits.control)
is_there waits (ControlLose place) = nat_lt place (length waits.control)
is_there waits _ = true

-- what an event takes
abbrev pub taken_of : Waits → Event → Took
taken_of waits (Take link place keep) = took_at link (slice_get (waiting link.0 waits) place)
taken_of waits (ControlTake place keep) = took_message (slice_get waits.control place)
taken_of waits _ = Nothing

-- a control message was taken, one to the controller, one to a node
abbrev pub IsMessage : Took → Type 0
IsMessage took = (a : Addressed) × (took ≡ Message a)

abbrev pub IsToController : Took → Type 0
IsToController took = (control : Control) × (took ≡ Message (record { to = Controller; control = control }))

abbrev pub IsToNode : NodeId → Took → Type 0
IsToNode id took = (control : Control) × (took ≡ Message (record { to = Node id; control = control }))

-- what is taken is of the kind that the event takes
abbrev pub IsItem : Event → Took → Type 0
IsItem (Take link place keep) took = (p : Packet) × (took ≡ Link link p)
IsItem (ControlTake place keep) took = IsMessage took
IsItem _ took = took ≡ Nothing

-- the answer to what the event takes: nothing waits at the place that it names, or this is taken
abbrev pub IsFound : Waits → Event → Option Took → Type 0
IsFound waits event None = is_there waits event ≡ false
IsFound waits event (Some took) = (is_there waits event ≡ true) × (took ≡ taken_of waits event) × IsItem event took

-- a control message goes to the controller or to a node of the network
abbrev pub IsAddressee : Graph → To → Type 0
IsAddressee graph Controller = Unit {0}
IsAddressee graph (Node n) = n.0 < graph.nodes

-- what is taken reaches a node of the network, if it is a control message to a node
abbrev pub ReachesKnown : Graph → Took → Type 0
ReachesKnown graph (Message a) = IsAddressee graph a.to
ReachesKnown graph _ = Unit {0}

-- the node acts in the event, which takes this
abbrev pub ActsAt : Graph → NodeId → Event → Took → Type 0
ActsAt graph id (Send host service now dests) took = (id.0 ≡ host.0) × (took ≡ Nothing)
ActsAt graph id (Tick n now) took = (id ≡ n) × (took ≡ Nothing)
ActsAt graph id (Take link place keep) took = (id.0 ≡ head_of graph link.0) × (p : Packet) × (took ≡ Link link p)
ActsAt graph id (ControlTake place keep) took = IsToNode id took
ActsAt graph id (Crash n) took = (id ≡ n) × (took ≡ Nothing)
ActsAt graph id _ took = ⊥

-- the node acts in the event, and stands for some records of its own
pub record IsAt (graph : Graph) (id : NodeId) (event : Event) (took : Took) (k : ANode) : Type 0 where
  pub names : IsOfGraph graph event
  pub acts : ActsAt graph id event took
  pub own : List Record
  pub stands : node.Stands graph id.0 own k

-- no node acts in the event, which takes this
abbrev pub IsOfNobody : Event → Took → Type 0
IsOfNobody (Lose link place) took = Unit {0}
IsOfNobody (ControlTake place keep) took = IsToController took
IsOfNobody (ControlLose place) took = Unit {0}
IsOfNobody (Cut link) took = Unit {0}
IsOfNobody (Send host service now dests) took = ⊥
IsOfNobody (Tick node now) took = ⊥
IsOfNobody (Take link place keep) took = ⊥
IsOfNobody Decide took = ⊥
IsOfNobody (Crash node) took = ⊥

abbrev pub is_crash : Event → Bool
is_crash (Crash n) = true
is_crash _ = false

-- the record of an event in which no node does anything
abbrev pub passing_record : Event → Took → Outcome → Record
passing_record event took outcome = record_of event took (quiet_step outcome)

-- no node does anything in the record, which is what the rules say, and no node crashes in it that had not before
pub record IsPassing (graph : Graph) (nodes : List NodeState) (waits : Waits) (r : Record) : Type 0 where
  pub rules : (past : List Record) → Keeps graph nodes waits past → IsStep graph past r
  pub nobodys : (n : ℕ) → is_own graph n r ≡ false
  pub crashes : (past : List Record) → Keeps graph nodes waits past → (n : ℕ)
      → has_crashed n (r ∷ past) ≡ has_crashed n past
  pub in_place : IsInPlace waits r.event r.step.outcome

-- the node acts in the event and can, and this is taken
pub record IsActing (graph : Graph) (nodes : List NodeState) (waits : Waits) (event : Event) (id : NodeId) (took : Took) : Type 0 where
  pub known : id.0 < length nodes
  pub acts : ActsAt graph id event took
  pub took_is : took ≡ taken_of waits event
  pub there : is_there waits event ≡ true
  pub awake : (d : NodeState) → (slice_index_or nodes id.0 d).crashed ≡ false

-- whose turn it is
abbrev pub IsTurn : Graph → List NodeState → Waits → Event → Turn → Type 0
IsTurn graph nodes waits event (Passes took outcome) = IsPassing graph nodes waits (passing_record event took outcome)
IsTurn graph nodes waits event (Acts id took) = IsActing graph nodes waits event id took
