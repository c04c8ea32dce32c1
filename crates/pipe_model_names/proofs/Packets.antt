-- Each packet that is put goes from a host to a host.
use Rattle.std.proofs.Common.{◌≡◌, ℕ, ◌<◌, true, List, ◌∷◌, Some, inl, inr, sym, subst}
use Rattle.std.specs.List.{All, Contains}
use Rattle.std.proofs.lemmas.List.Elements.{All-contains, All-head, All-nil, All-tail}
use Rattle.std.proofs.lemmas.Bool.{ltb-true}
use Rattle.pipe_base.specs.declared.message.Service.{Service}
use Rattle.pipe_base.specs.declared.message.Service.TheVariants.{BestEffort, Reliable}
use Rattle.pipe_base.specs.declared.name.HostId.{HostId}
use Rattle.pipe_base.specs.declared.name.LinkId.{LinkId}
use Rattle.pipe_base.specs.declared.name.Ts.{Ts}
use Rattle.pipe_base.specs.declared.packet.Packet.{Packet}
use Rattle.pipe_base.specs.Packets.{Fields, sent_to}
use Rattle.pipe_base.specs.Scattering.{Scattering}
use Rattle.pipe_graph.specs.Graph.{Graph}
use Rattle.pipe_model.specs.declared.event.Event.TheVariants.{Send}
use Rattle.pipe_model.specs.declared.record.Record.{Record}
use Rattle.pipe_model.specs.declared.record.Took.TheVariants.{Link}
use Rattle.pipe_model.specs.Acting.{is_own, own}
use Rattle.pipe_model.specs.Event.{IsOfGraph}
use Rattle.pipe_model.specs.Got.{gets}
use Rattle.pipe_model.specs.Moments.{moments_of, received}
use Rattle.pipe_model.specs.NeverLate.{AreOfGraph}
use Rattle.pipe_model.specs.Packets.{OfAllPackets}
use Rattle.pipe_model.specs.Run.{IsHistory, IsStep}
use Rattle.pipe_model_net.proofs.Acting.{nobodys_or_own, quiet_puts}
use Rattle.pipe_model_net.proofs.Begun.{IsScatteringSent, entry_sent}
use Rattle.pipe_model_net.proofs.Owed.{puts_each}
use Rattle.pipe_model_net.proofs.Packets.{all_packets_keep}
use Rattle.pipe_model_net.proofs.Prepared.{is_got}
use Rattle.pipe_model_net.proofs.Sent.{received_took, unsettled_sent}
use Rattle.pipe_model_atomic.proofs.SentBegun.{ends_in}
use Rattle.pipe_model_names.specs.Names.{IsPacketOf}

-- where the events are of the network, the packet is
abbrev pub IsKnown : Graph → List Record → Packet → Type 0
IsKnown graph past p = AreOfGraph graph past → IsPacketOf graph p

-- each packet that a record took from a link is
abbrev pub TookKnown : Graph → List Record → Record → Type 0
TookKnown graph past r = (l : LinkId) (p : Packet) → r.took ≡ Link l p → IsKnown graph past p

pub earlier : (graph : Graph) (past : List Record) (r : Record) → AreOfGraph graph (r ∷ past) → AreOfGraph graph past
earlier graph past r names = All-tail (λ (x : Record). IsOfGraph graph x.event) r past names

pub newest : (graph : Graph) (past : List Record) (r : Record) → AreOfGraph graph (r ∷ past) → IsOfGraph graph r.event
newest graph past r names = All-head (λ (x : Record). IsOfGraph graph x.event) r past names

sent_known : (service : Service) (graph : Graph) (src : HostId) (ts : Ts) (f : Fields) (d : HostId × List ℕ) → src.0 < graph.hosts → d.0.0 < graph.hosts
    → IsPacketOf graph (sent_to service src ts f d)
sent_known BestEffort graph src ts f d from to = record { sender = from; receiver = to }
sent_known Reliable graph src ts f d from to = record { sender = from; receiver = to }

sent_now : (graph : Graph) (past : List Record) (r : Record) (f : Fields) (host : HostId) (service : Service) (now ts : Ts) (dests : List (HostId × List ℕ))
    → r.event ≡ Send host service now dests → (d : HostId × List ℕ) → Contains dests d → IsKnown graph (r ∷ past) (sent_to service host ts f d)
sent_now graph past r f host service now ts dests event d among names =
    let can = subst (IsOfGraph graph) event (newest graph past r names) in
    sent_known service graph host ts f d can.host_in (All-contains (λ (x : HostId × List ℕ). x.0.0 < graph.hosts) dests d can.receivers.known among)

-- both ends of what was sent before are hosts
put_again : (graph : Graph) (past : List Record) (r : Record) (n : ℕ) (s : Scattering) → IsScatteringSent n (r ∷ past) s → (d : HostId × List ℕ) → Contains s.dests d
    → AreOfGraph graph (r ∷ past) → (n < graph.hosts) × (d.0.0 < graph.hosts)
put_again graph past r n s sent d listed names = ends_in graph Reliable (r ∷ past) d.0.0 (entry_sent n s d) names (sent d listed)

-- the packet that a record received is
received_known : (graph : Graph) (past : List Record) (r : Record) (n : ℕ) (q : ℕ × Packet) → TookKnown graph past r → received graph n (own graph n past) r ≡ Some q
    → IsKnown graph (r ∷ past) q.1
received_known graph past r n q before at names =
    let took = received_took (moments_of graph n (own graph n past)) r.event r.took q at in before took.0 q.1 took.1 (earlier graph past r names)

got_known : (graph : Graph) (past : List Record) (r : Record) (n : ℕ) (p : Packet) → TookKnown graph past r → gets graph n (own graph n past) r ≡ Some p
    → IsKnown graph (r ∷ past) p
got_known graph past r n p before gets_is names =
    let got = is_got graph n (received graph n (own graph n past) r) p gets_is in
    received_known graph past r n (got.link, p) before got.received_is names

puts_of_own : (graph : Graph) (past : List Record) (r : Record) (n : ℕ) → 0 < graph.hosts → IsHistory graph past → IsStep graph past r → is_own graph n r ≡ true
    → TookKnown graph past r → All (λ q. IsKnown graph (r ∷ past) q.1) r.step.put
puts_of_own graph past r n some run step mine before =
    puts_each (IsKnown graph (r ∷ past)) graph n (own graph n past) r (step.node n mine) (record {
      sent = λ host service now ts dests event stamp d among. sent_now graph past r _ host service now ts dests event d among;
      resent = λ s among d listed names.
          let ends = put_again graph past r n s (unsettled_sent graph past r n s (run, step) mine among) d listed names in
          record { sender = ends.0; receiver = ends.1 };
      recalled = λ s among is d listed names.
          let ends = put_again graph past r n s (unsettled_sent graph past r n s (run, step) mine among) d listed names in
          record { sender = ends.0; receiver = ends.1 };
      passed = λ q at half other names.
          let is = received_known graph past r n q before at names in record { sender = is.sender; receiver = is.receiver };
      answered = λ p gets_is host reliable holding names.
          record { sender = ltb-true n graph.hosts host; receiver = (got_known graph past r n p before gets_is names).sender };
      took_back = λ p gets_is host is names.
          record { sender = ltb-true n graph.hosts host; receiver = (got_known graph past r n p before gets_is names).sender };
      beacon_too = λ names. record { sender = some; receiver = some };
    })

pub puts_named : (graph : Graph) (past : List Record) (r : Record) → 0 < graph.hosts → IsHistory graph past → IsStep graph past r → TookKnown graph past r
    → All (λ q. IsKnown graph (r ∷ past) q.1) r.step.put
puts_named graph past r some run step before =
    elim (nobodys_or_own graph r) [
      | inl quiet ↦ subst (λ (puts : List (LinkId × Packet)). All (λ (q : LinkId × Packet). IsKnown graph (r ∷ past) q.1) puts)
          (sym (quiet_puts graph past r step quiet)) (All-nil (λ (q : LinkId × Packet). IsKnown graph (r ∷ past) q.1))
      | inr mine ↦ puts_of_own graph past r mine.0 some run step mine.1 before
    ]

pub packets_known : (graph : Graph) (past : List Record) → 0 < graph.hosts → IsHistory graph past → OfAllPackets (IsKnown graph past) graph past
packets_known graph past some run =
    all_packets_keep graph (IsKnown graph) (record {
      stays = λ before r p history step holds names. holds (earlier graph before r names);
      starts = λ before r history step taken. puts_named graph before r some history step taken;
    }) past run
