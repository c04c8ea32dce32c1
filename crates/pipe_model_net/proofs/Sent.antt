-- Each message that waits or was received was sent: by its sender, under its timestamp, to its receiver with its body.
use Rattle.std.proofs.Common.{◌≡◌, ℕ, ◌==◌, ◌&&◌, not, if◌then◌else◌, Bool, true, false, List, ◌∷◌, None, Some, refl, inl, inr, sym, subst, ap}
use Rattle.std.specs.List.{All, Contains}
use Rattle.std.proofs.lemmas.List.Elements.{All-nil, All-contains, All-filter}
use Rattle.pipe_base.specs.declared.name.HostId.{HostId}
use Rattle.pipe_base.specs.declared.name.LinkId.{LinkId}
use Rattle.pipe_base.specs.declared.name.Ts.{Ts}
use Rattle.pipe_base.specs.declared.message.Entry.{Entry}
use Rattle.pipe_base.specs.declared.message.Service.{Service}
use Rattle.pipe_base.specs.declared.message.Service.TheVariants.{BestEffort, Reliable}
use Rattle.pipe_base.specs.declared.packet.Packet.{Packet}
use Rattle.pipe_graph.specs.Graph.{Graph}
use Rattle.pipe_base.specs.Messages.{entry_of}
use Rattle.pipe_base.specs.Moment.{Moment, is_up}
use Rattle.pipe_base.specs.Packets.{Fields, ack_to, beacon, forwarded, recall_ack_to, recall_to, sent_to}
use Rattle.pipe_base.specs.Scattering.{Scattering, SenderCall, begun}
use Rattle.pipe_base.specs.Settled.{is_settled, unsettled}
use Rattle.pipe_model.specs.declared.event.Event.{Event}
use Rattle.pipe_model.specs.declared.event.Event.TheVariants.{Send, Take}
use Rattle.pipe_model.specs.declared.record.Record.{Record}
use Rattle.pipe_model.specs.declared.record.Took.{Took}
use Rattle.pipe_model.specs.declared.record.Took.TheVariants.{Link}
use Rattle.pipe_model.specs.Acting.{is_own, own}
use Rattle.pipe_model.specs.Duties.{fields}
use Rattle.pipe_model.specs.Got.{key_of}
use Rattle.pipe_model.specs.MessagesSent.{AreMessagesSent, IsMessageSent}
use Rattle.pipe_model.specs.Moments.{received_of, taken_from, moments_of}
use Rattle.pipe_model.specs.Order.{IsSendTo, WasSent}
use Rattle.pipe_model.specs.Run.{IsHistory, IsStep}
use Rattle.pipe_model.specs.Sender.{sender_calls}
use Rattle.pipe_model.proofs.Own.{own_more}
use Rattle.pipe_model_net.proofs.Acting.{nobodys_or_own, quiet_puts}
use Rattle.pipe_model_net.proofs.Begun.{IsScatteringSent, begun_sent, send_accepted}
use Rattle.pipe_model_net.proofs.Owed.{puts_each}
use Rattle.pipe_model_net.proofs.Packets.{all_packets_keep}

-- the entry that the message of a packet becomes
abbrev pub entry_from : Packet → Entry
entry_from p = entry_of (key_of p, p.body)

-- the packet received is the one taken
chosen : (b : Bool) (n : ℕ) (p : Packet) (q : ℕ × Packet) → (if b then Some (n, p) else None) ≡ Some q → p ≡ q.1
chosen true n p q is = cc
chosen false n p q is = cc

from_link : (past : List Moment) (link : ℕ) (took : Took) (q : ℕ × Packet) → taken_from past link took ≡ Some q → (l : LinkId) × (took ≡ Link l q.1)
from_link past link (Link l p) q is =
    let same : p ≡ q.1 = chosen ((l.0 == link) && is_up past link) link p q is in (l, ap (λ (x : Packet). Link l x) same)
from_link past link _ q is = cc

pub received_took : (past : List Moment) (event : Event) (took : Took) (q : ℕ × Packet) → received_of past event took ≡ Some q → (l : LinkId) × (took ≡ Link l q.1)
received_took past (Take link place keep) took q is = from_link past link.0 took q is
received_took past _ took q is = cc

-- ---- each kind of packet

-- a beacon and an acknowledgement carry no message
beacon_sent : (past : List Record) (f : Fields) → IsMessageSent past (beacon f)
beacon_sent past f BestEffort is = cc
beacon_sent past f Reliable is = cc

ack_sent : (past : List Record) (src : HostId) (f : Fields) (p : Packet) → IsMessageSent past (ack_to src f p)
ack_sent past src f p BestEffort is = cc
ack_sent past src f p Reliable is = cc

-- nor does the taking back of a message, nor its answer
recall_sent : (past : List Record) (src : HostId) (ts : Ts) (f : Fields) (d : HostId × List ℕ) → IsMessageSent past (recall_to src ts f d)
recall_sent past src ts f d BestEffort is = cc
recall_sent past src ts f d Reliable is = cc

recall_ack_sent : (past : List Record) (src : HostId) (f : Fields) (p : Packet) → IsMessageSent past (recall_ack_to src f p)
recall_ack_sent past src f p BestEffort is = cc
recall_ack_sent past src f p Reliable is = cc

-- what is sent to one receiver, as an entry of its log
abbrev entry_to : HostId → Ts → (HostId × List ℕ) → Entry
entry_to src ts d = record { key = record { ts = ts; src = src }; body = d.1 }

-- the packet of a service carries a message of this service alone
one_sent : (service : Service) (past : List Record) (src : HostId) (ts : Ts) (f : Fields) (d : HostId × List ℕ) → WasSent service d.0.0 (entry_to src ts d) past
    → IsMessageSent past (sent_to service src ts f d)
one_sent BestEffort past src ts f d was BestEffort is = was
one_sent BestEffort past src ts f d was Reliable is = cc
one_sent Reliable past src ts f d was BestEffort is = cc
one_sent Reliable past src ts f d was Reliable is = was

-- a message of an accepted send was sent by it
sent_by : (graph : Graph) (past : List Record) (r : Record) (n : ℕ) (f : Fields) (host : HostId) (service : Service) (now ts : Ts) (dests : List (HostId × List ℕ))
    → IsStep graph past r → is_own graph n r ≡ true → r.event ≡ Send host service now dests → r.step.stamped ≡ Some ts
    → (d : HostId × List ℕ) → Contains dests d → IsMessageSent (r ∷ past) (sent_to service host ts f d)
sent_by graph past r n f host service now ts dests step mine event stamp d among =
    one_sent service (r ∷ past) host ts f d (inl (record {
      accepted = send_accepted graph past r n host service now dests ts step mine event stamp;
      stamp = stamp;
      listed = subst (λ (e : Event). IsSendTo service d.0.0 (entry_to host ts d) e) (sym event) (refl, (refl, among));
    }))

-- a scattering that is not settled was sent
pub unsettled_sent : (graph : Graph) (past : List Record) (r : Record) (n : ℕ) (s : Scattering) → IsHistory graph (r ∷ past) → is_own graph n r ≡ true
    → Contains (unsettled (sender_calls graph n (r ∷ own graph n past))) s → IsScatteringSent n (r ∷ past) s
unsettled_sent graph past r n s run mine among =
    let calls : List SenderCall = sender_calls graph n (r ∷ own graph n past) in
    let all : All (IsScatteringSent n (r ∷ past)) (begun calls) =
    subst (λ (o : List Record). All (IsScatteringSent n (r ∷ past)) (begun (sender_calls graph n o))) (own_more graph n r past mine) (begun_sent graph (r ∷ past) run n) in
    All-contains (IsScatteringSent n (r ∷ past)) (unsettled calls) s
    (All-filter (λ (t : Scattering). not (is_settled calls t)) (IsScatteringSent n (r ∷ past)) (begun calls) all) among

-- what a half passes on was sent
passed_sent : (past : List Record) (r : Record) (f : Fields) (p : Packet) → IsMessageSent past p → IsMessageSent (r ∷ past) (forwarded f p)
passed_sent past r f p sent service is = inr (sent service is)

-- ---- all packets

puts_of_own : (graph : Graph) (past : List Record) (r : Record) (n : ℕ) → IsHistory graph past → IsStep graph past r → is_own graph n r ≡ true
    → ((l : LinkId) (p : Packet) → r.took ≡ Link l p → IsMessageSent past p) → All (λ q. IsMessageSent (r ∷ past) q.1) r.step.put
puts_of_own graph past r n run step mine sent =
    let o : List Record = own graph n past in
    let f : Fields = fields graph n o r in
    puts_each (IsMessageSent (r ∷ past)) graph n o r (step.node n mine) (record {
      sent = λ host service now ts dests event stamp d among. sent_by graph past r n f host service now ts dests step mine event stamp d among;
      resent = λ s among d listed.
          one_sent Reliable (r ∷ past) (record { 0 = n }) s.ts f d (unsettled_sent graph past r n s (run, step) mine among d listed);
      recalled = λ s among is d listed. recall_sent (r ∷ past) (record { 0 = n }) s.ts f d;
      passed = λ q at half other.
          let took = received_took (moments_of graph n o) r.event r.took q at in passed_sent past r f q.1 (sent took.0 q.1 took.1);
      answered = λ p got host reliable holding. ack_sent (r ∷ past) (record { 0 = n }) f p;
      took_back = λ p got host is. recall_ack_sent (r ∷ past) (record { 0 = n }) f p;
      beacon_too = beacon_sent (r ∷ past) f;
    })

puts_sent : (graph : Graph) (past : List Record) (r : Record) → IsHistory graph past → IsStep graph past r
    → ((l : LinkId) (p : Packet) → r.took ≡ Link l p → IsMessageSent past p) → All (λ q. IsMessageSent (r ∷ past) q.1) r.step.put
puts_sent graph past r run step sent =
    elim (nobodys_or_own graph r) [
      | inl quiet ↦ subst (λ (puts : List (LinkId × Packet)). All (λ (q : LinkId × Packet). IsMessageSent (r ∷ past) q.1) puts)
          (sym (quiet_puts graph past r step quiet)) (All-nil (λ (q : LinkId × Packet). IsMessageSent (r ∷ past) q.1))
      | inr own_of ↦ puts_of_own graph past r own_of.0 run step own_of.1 sent
    ]

pub messages_sent : (graph : Graph) (past : List Record) → IsHistory graph past → AreMessagesSent graph past
messages_sent graph past run =
    all_packets_keep graph IsMessageSent (record { stays = λ past r p before step sent service is. inr (sent service is); starts = puts_sent graph }) past run
