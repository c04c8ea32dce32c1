-- Each packet of a run has a spelling: its numbers are within the clock, its names of the network, its fields go with its kind,
-- and what it carries was sent.
use Rattle.std.proofs.Common.{◌≡◌, ℕ, ◌<◌, ◌≤◌, ◌==◌, ◌&&◌, Bool, true, false, List, [], ◌∷◌, length, refl, inl, inr, sym, subst, ap, ◌∙◌, true≢false, eqb-true, arith, le_trans}
use Rattle.std.specs.Prelude.{IsTrue}
use Rattle.std.specs.List.{All}
use Rattle.std.proofs.lemmas.List.Elements.{All-nil, All-contains, All-head, All-tail}
use Rattle.pipe_base.specs.declared.message.Entry.{Entry}
use Rattle.pipe_base.specs.declared.message.Service.{Service}
use Rattle.pipe_base.specs.declared.message.Service.TheVariants.{BestEffort, Reliable}
use Rattle.pipe_base.specs.declared.name.HostId.{HostId}
use Rattle.pipe_base.specs.declared.name.LinkId.{LinkId}
use Rattle.pipe_base.specs.declared.name.Ts.{Ts}
use Rattle.pipe_base.specs.declared.packet.Packet.{Packet}
use Rattle.pipe_base.specs.declared.packet.PacketKind.{PacketKind}
use Rattle.pipe_base.specs.declared.packet.PacketKind.TheVariants.{Ack, Beacon, Plain, Prepare, Recall, RecallAck}
use Rattle.pipe_base.specs.Limits.{most_body}
use Rattle.pipe_base.specs.Packets.{Fields, sent_to}
use Rattle.pipe_graph.specs.Graph.{Graph}
use Rattle.pipe_topo.specs.Tables.{IsNetwork}
use Rattle.pipe_codec.specs.Packet.{IsPacket, fits_kind}
use Rattle.pipe_model.specs.declared.event.Event.{Event}
use Rattle.pipe_model.specs.declared.event.Event.TheVariants.{Send}
use Rattle.pipe_model.specs.declared.record.Record.{Record}
use Rattle.pipe_model.specs.declared.record.Took.TheVariants.{Link}
use Rattle.pipe_model.specs.Acting.{is_own, own}
use Rattle.pipe_model.specs.Duties.{fields}
use Rattle.pipe_model.specs.Got.{carries}
use Rattle.pipe_model.specs.MessagesSent.{IsMessageSent}
use Rattle.pipe_model.specs.Moments.{moments_of}
use Rattle.pipe_model.specs.NeverLate.{AreOfGraph}
use Rattle.pipe_model.specs.Order.{IsSendTo, WasSent}
use Rattle.pipe_model.specs.Packets.{OfAllPackets}
use Rattle.pipe_model.specs.Run.{IsHistory, IsStep}
use Rattle.pipe_model_net.proofs.Acting.{nobodys_or_own, quiet_puts}
use Rattle.pipe_model_net.proofs.Owed.{puts_each}
use Rattle.pipe_model_net.proofs.Packets.{all_packets_keep}
use Rattle.pipe_model_net.proofs.Sent.{messages_sent, received_took}
use Rattle.pipe_model_bounds.specs.Numbers.{IsPacketWithin}
use Rattle.pipe_model_bounds.proofs.Numbers.{numbers_within}
use Rattle.pipe_model_names.specs.Names.{IsPacketOf}
use Rattle.pipe_model_names.proofs.Names.{names_known}
use Rattle.pipe_model_bytes.specs.Bodies.{AreBodiesShort, HasShortBodies}
use Rattle.pipe_model_bytes.specs.Spelled.{ArePacketsSpelled}

-- ---- the fields of a packet go with its kind

abbrev FitsKind : Packet → Type 0
FitsKind p = IsTrue (fits_kind p.kind p.src.0 p.dst.0 p.ts.0 (length p.body))

sent_fits : (service : Service) (src : HostId) (ts : Ts) (f : Fields) (d : HostId × List ℕ) → FitsKind (sent_to service src ts f d)
sent_fits BestEffort src ts f d = refl
sent_fits Reliable src ts f d = refl

own_fit : (graph : Graph) (past : List Record) (r : Record) (n : ℕ) → IsStep graph past r → is_own graph n r ≡ true
    → ((l : LinkId) (p : Packet) → r.took ≡ Link l p → FitsKind p) → All (λ q. FitsKind q.1) r.step.put
own_fit graph past r n step mine before =
    let o : List Record = own graph n past in
    let f : Fields = fields graph n o r in
    puts_each FitsKind graph n o r (step.node n mine) (record {
      sent = λ host service now ts dests event stamp d among. sent_fits service host ts f d;
      resent = λ s among d listed. refl;
      recalled = λ s among is d listed. refl;
      passed = λ q at half other. let took = received_took (moments_of graph n o) r.event r.took q at in before took.0 q.1 took.1;
      answered = λ p gets_is host reliable holding. refl;
      took_back = λ p gets_is host is. refl;
      beacon_too = refl;
    })

puts_fit : (graph : Graph) (past : List Record) (r : Record) → IsHistory graph past → IsStep graph past r
    → ((l : LinkId) (p : Packet) → r.took ≡ Link l p → FitsKind p) → All (λ q. FitsKind q.1) r.step.put
puts_fit graph past r run step before =
    elim (nobodys_or_own graph r) [
      | inl quiet ↦ subst (λ (puts : List (LinkId × Packet)). All (λ (q : LinkId × Packet). FitsKind q.1) puts) (sym (quiet_puts graph past r step quiet))
          (All-nil (λ (q : LinkId × Packet). FitsKind q.1))
      | inr own_of ↦ own_fit graph past r own_of.0 step own_of.1 before
    ]

all_fit : (graph : Graph) (past : List Record) → IsHistory graph past → OfAllPackets FitsKind graph past
all_fit graph past run =
    all_packets_keep graph (λ (before : List Record). FitsKind) (record { stays = λ before r p history step fits. fits; starts = puts_fit graph }) past run

-- ---- bodies are short: messages were sent, and nothing else has one

event_short : (service : Service) (host : ℕ) (entry : Entry) (event : Event) → IsSendTo service host entry event → HasShortBodies event → length entry.body ≤ most_body
event_short service host entry (Send src sent now dests) listed short =
    All-contains (λ (d : HostId × List ℕ). length d.1 ≤ most_body) dests (record { 0 = host }, entry.body) short listed.1.1
event_short service host entry _ listed short = absurd listed

sent_short : (service : Service) (host : ℕ) (entry : Entry) (past : List Record) → WasSent service host entry past → AreBodiesShort past → length entry.body ≤ most_body
sent_short service host entry [] was short = absurd was
sent_short service host entry (r ∷ past) (inl now) short =
    event_short service host entry r.event now.listed (All-head (λ (x : Record). HasShortBodies x.event) r past short)
sent_short service host entry (r ∷ past) (inr then) short = sent_short service host entry past then (All-tail (λ (x : Record). HasShortBodies x.event) r past short)

none_short : (n : ℕ) (b : Bool) → (n == 0) ≡ b → IsTrue b → n ≤ most_body
none_short n true is fits = let none : n ≡ 0 = eqb-true n 0 is in omega (arith, none)
none_short n false is fits = absurd (true≢false (sym fits))

last_of : (a b c d : Bool) → IsTrue (a && b && c && d) → IsTrue d
last_of true true true d is = is
last_of true true false d is = absurd (true≢false (sym is))
last_of true false c d is = absurd (true≢false (sym is))
last_of false b c d is = absurd (true≢false (sym is))

body_short : (past : List Record) (p : Packet) (kind : PacketKind) → p.kind ≡ kind → IsTrue (fits_kind kind p.src.0 p.dst.0 p.ts.0 (length p.body)) → IsMessageSent past p
    → AreBodiesShort past → length p.body ≤ most_body
body_short past p Plain is fits sent short = sent_short BestEffort p.dst.0 _ past (sent BestEffort (ap (carries BestEffort) is)) short
body_short past p Prepare is fits sent short = sent_short Reliable p.dst.0 _ past (sent Reliable (ap (carries Reliable) is)) short
body_short past p Beacon is fits sent short =
    none_short (length p.body) (length p.body == 0) refl (last_of (p.src.0 == 0) (p.dst.0 == 0) (p.ts.0 == 0) (length p.body == 0) fits)
body_short past p Ack is fits sent short = none_short (length p.body) (length p.body == 0) refl fits
body_short past p Recall is fits sent short = none_short (length p.body) (length p.body == 0) refl fits
body_short past p RecallAck is fits sent short = none_short (length p.body) (length p.body == 0) refl fits

-- ---- together

one_spelled : (graph : Graph) (switches : ℕ) (past : List Record) (p : Packet) → IsNetwork graph switches → AreBodiesShort past → IsPacketWithin graph.top p → IsPacketOf graph p
    → FitsKind p → IsMessageSent past p → IsPacket p
one_spelled graph switches past p network short within named fits sent =
    let top = network.short in
    let hosts = network.few_hosts in
    let be = within.best_effort in
    let commit = within.commit in
    let src = named.sender in
    let dst = named.receiver in
    record {
      sendable = record {
        stamp = le_trans within.stamp top;
        best_effort = omega (arith, top, be);
        commit = omega (arith, top, commit);
        kind = fits;
      };
      src = omega (arith, hosts, src);
      dst = omega (arith, hosts, dst);
      body = body_short past p p.kind refl fits sent short;
    }

pub packets_spelled : (graph : Graph) (switches : ℕ) (past : List Record) → IsNetwork graph switches → 0 < graph.hosts → IsHistory graph past → AreOfGraph graph past → AreBodiesShort past
    → ArePacketsSpelled graph past
packets_spelled graph switches past network some run known short =
    let within = (numbers_within graph past run known).packets in
    let named = (names_known graph past network.is_graph some run known).packets in
    let fits = all_fit graph past run in
    let sent = messages_sent graph past run in
    record {
      waiting = λ link k d lt.
          one_spelled graph switches past _ network short (within.waiting link k d lt) (named.waiting link k d lt) (fits.waiting link k d lt) (sent.waiting link k d lt);
      received = λ node k d lt.
          one_spelled graph switches past _ network short (within.received node k d lt) (named.received node k d lt) (fits.received node k d lt) (sent.received node k d lt);
    }
