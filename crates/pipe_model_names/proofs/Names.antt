-- Whatever a run names is of its network.
use Rattle.std.proofs.Common.{◌≡◌, ◌<◌, List, [], ◌∷◌, subst}
use Rattle.std.specs.List.{All}
use Rattle.std.proofs.lemmas.List.Elements.{All-cons, All-nil}
use Rattle.pipe_base.specs.declared.control.Addressed.{Addressed}
use Rattle.pipe_base.specs.declared.name.LinkId.{LinkId}
use Rattle.pipe_base.specs.declared.packet.Packet.{Packet}
use Rattle.pipe_graph.specs.Graph.{Graph, IsGraph}
use Rattle.pipe_model.specs.declared.record.Record.{Record}
use Rattle.pipe_model.specs.declared.record.Took.{Took}
use Rattle.pipe_model.specs.declared.record.Took.TheVariants.{Link}
use Rattle.pipe_model.specs.Event.{IsOfGraph}
use Rattle.pipe_model.specs.NeverLate.{AreOfGraph}
use Rattle.pipe_model.specs.Packets.{OfAllPackets}
use Rattle.pipe_model.specs.Run.{IsHistory}
use Rattle.pipe_model.specs.Waiting.{waiting_control}
use Rattle.pipe_model_net.proofs.ControlMessages.{messages_keep}
use Rattle.pipe_model_names.specs.Names.{AreNamesOf, IsMessageOf, IsPacketOf, IsRecordOf, IsTookOf}
use Rattle.pipe_model_names.proofs.Packets.{IsKnown, earlier, newest, packets_known, puts_named}
use Rattle.pipe_model_names.proofs.Steps.{puts_told, step_known, took_known}
use Rattle.pipe_model_names.proofs.Views.{view_known}

messages_known : (graph : Graph) (past : List Record) → IsGraph graph → IsHistory graph past → AreOfGraph graph past → All (IsMessageOf graph) (waiting_control past)
messages_known graph past is run names k d lt =
    messages_keep graph (λ (before : List Record) (m : Addressed). AreOfGraph graph before → IsMessageOf graph m) (record {
      stays = λ before r m step holds known. holds (earlier graph before r known);
      starts = λ before r history step i e within known. puts_told graph before r is step (newest graph before r known) i e within;
    }) past run k d lt names

-- what is known where the events are of the network
all_known : (graph : Graph) (past : List Record) → AreOfGraph graph past → OfAllPackets (IsKnown graph past) graph past → OfAllPackets (IsPacketOf graph) graph past
all_known graph past names all = record { waiting = λ link k d lt. all.waiting link k d lt names; received = λ node k d lt. all.received node k d lt names }

packet_of : (graph : Graph) (l : LinkId) (p : Packet) (took : Took) → IsTookOf graph took → took ≡ Link l p → IsPacketOf graph p
packet_of graph l p took known is = (subst (IsTookOf graph) is known).1

record_known : (graph : Graph) (past : List Record) (r : Record) → IsGraph graph → 0 < graph.hosts → IsHistory graph (r ∷ past) → AreOfGraph graph (r ∷ past) → IsRecordOf graph r
record_known graph past r is some run names =
    let known : IsOfGraph graph r.event = newest graph past r names in
    let before : AreOfGraph graph past = earlier graph past r names in
    let took : IsTookOf graph r.took =
    took_known graph past r run.1 known (all_known graph past before (packets_known graph past some run.0)).waiting (messages_known graph past is run.0 before) in
    let named = puts_named graph past r some run.0 run.1 (λ l p taken still. packet_of graph l p r.took took taken) in
    record { event_of = known; took_of = took; step_of = step_known graph past r is run.0 run.1 before known took (λ k d lt. named k d lt names) }

records_known : (graph : Graph) (past : List Record) → IsGraph graph → 0 < graph.hosts → IsHistory graph past → AreOfGraph graph past → All (IsRecordOf graph) past
records_known graph [] is some run names = All-nil (IsRecordOf graph)
records_known graph (r ∷ past) is some run names =
    All-cons (IsRecordOf graph) r past (record_known graph past r is some run names) (records_known graph past is some run.0 (earlier graph past r names))

pub names_known : (graph : Graph) (past : List Record) → IsGraph graph → 0 < graph.hosts → IsHistory graph past → AreOfGraph graph past → AreNamesOf graph past
names_known graph past is some run names =
    let v = view_known graph past in
    record {
      records = records_known graph past is some run names;
      packets = all_known graph past names (packets_known graph past some run);
      messages = messages_known graph past is run names;
      hosts = v.hosts;
      drops = v.drops;
    }
