-- What is named is of the network: the hosts, links and nodes that stand in packets, in control messages and in records.
use Rattle.std.specs.Prelude.{◌<◌, List, length, All}
use Rattle.pipe_base.specs.declared.control.Addressed.{Addressed}
use Rattle.pipe_base.specs.declared.control.Announced.{Announced}
use Rattle.pipe_base.specs.declared.control.Control.{Control}
use Rattle.pipe_base.specs.declared.control.Control.TheVariants.{Done, Down, DropLinks, Freeze, Gone, Notice}
use Rattle.pipe_base.specs.declared.control.To.{To}
use Rattle.pipe_base.specs.declared.control.To.TheVariants.{Controller, Node}
use Rattle.pipe_base.specs.declared.name.LinkId.{LinkId}
use Rattle.pipe_base.specs.declared.packet.Packet.{Packet}
use Rattle.pipe_base.specs.declared.step.Outcome.{Outcome}
use Rattle.pipe_base.specs.declared.step.Outcome.TheVariants.{DestFailed}
use Rattle.pipe_base.specs.declared.step.Step.{Step}
use Rattle.pipe_graph.specs.Graph.{Graph}
use Rattle.pipe_model.specs.declared.record.Record.{Record}
use Rattle.pipe_model.specs.declared.record.Took.{Took}
use Rattle.pipe_model.specs.declared.record.Took.TheVariants.{Link, Message, Nothing}
use Rattle.pipe_model.specs.Controller.{announced, dropped}
use Rattle.pipe_model.specs.Event.{IsOfGraph}
use Rattle.pipe_model.specs.Packets.{OfAllPackets}
use Rattle.pipe_model.specs.Waiting.{waiting_control}

abbrev pub IsLinkOf : Graph → LinkId → Type 0
IsLinkOf graph l = l.0 < length graph.links

abbrev pub AreHostsOf : Graph → List Announced → Type 0
AreHostsOf graph list = All (λ a. a.host.0 < graph.hosts) list

-- the sender and the receiver of a packet; a beacon names the first host as both
pub record IsPacketOf (graph : Graph) (p : Packet) : Type 0 where
  pub sender : p.src.0 < graph.hosts
  pub receiver : p.dst.0 < graph.hosts

abbrev pub IsReceiverOf : Graph → To → Type 0
IsReceiverOf graph Controller = Unit {0}
IsReceiverOf graph (Node n) = n.0 < graph.nodes

abbrev pub IsControlOf : Graph → Control → Type 0
IsControlOf graph (Down link value) = IsLinkOf graph link
IsControlOf graph (Freeze link) = IsLinkOf graph link
IsControlOf graph (Notice list) = AreHostsOf graph list
IsControlOf graph (Done host count) = host.0 < graph.hosts
IsControlOf graph (DropLinks links) = All (IsLinkOf graph) links
IsControlOf graph (Gone node count) = node.0 < graph.nodes

pub record IsMessageOf (graph : Graph) (message : Addressed) : Type 0 where
  pub receiver : IsReceiverOf graph message.to
  pub told : IsControlOf graph message.control

abbrev pub IsTookOf : Graph → Took → Type 0
IsTookOf graph Nothing = Unit {0}
IsTookOf graph (Link link p) = IsLinkOf graph link × IsPacketOf graph p
IsTookOf graph (Message a) = IsMessageOf graph a

-- an outcome names a host where a receiver has failed
abbrev pub IsOutcomeOf : Graph → Outcome → Type 0
IsOutcomeOf graph (DestFailed host) = host.0 < graph.hosts
IsOutcomeOf graph _ = Unit {0}

-- The links on which something is put, that go down and that are dropped, the senders of what is logged, and who is noted.
pub record IsStepOf (graph : Graph) (step : Step) : Type 0 where
  pub links : All (λ q. IsLinkOf graph q.0) step.put
  pub packets : All (λ q. IsPacketOf graph q.1) step.put
  pub messages : All (IsMessageOf graph) step.control
  pub downs : All (λ d. IsLinkOf graph d.0) step.downed
  pub drops : All (IsLinkOf graph) step.dropped
  pub entries : All (λ e. e.1.key.src.0 < graph.hosts) step.logged
  pub notes : AreHostsOf graph step.noted
  pub refused : IsOutcomeOf graph step.outcome

pub record IsRecordOf (graph : Graph) (r : Record) : Type 0 where
  pub event_of : IsOfGraph graph r.event
  pub took_of : IsTookOf graph r.took
  pub step_of : IsStepOf graph r.step

-- What a run names is of the network: in its records, in all packets and control messages that wait or were received, and in
-- what the controller announced and dropped.
pub record AreNamesOf (graph : Graph) (past : List Record) : Type 0 where
  pub records : All (IsRecordOf graph) past
  pub packets : OfAllPackets (IsPacketOf graph) graph past
  pub messages : All (IsMessageOf graph) (waiting_control past)
  pub hosts : AreHostsOf graph (announced graph past)
  pub drops : All (IsLinkOf graph) (dropped graph past)
