-- Acknowledgements are true: a host puts one where it holds the message, and what it held it has held ever since.
use Rattle.std.proofs.Common.{◌≡◌, ℕ, if◌then◌else◌, nat_lt, Bool, true, false, List, ◌∷◌, Option, None, Some, refl, inl, inr, sym, subst, ap, ◌∙◌, nat_le, []}
use Rattle.std.specs.List.{All}
use Rattle.std.specs.Option.{option_or}
use Rattle.std.proofs.lemmas.Bool.{or_left, or_right}
use Rattle.std.proofs.lemmas.List.Elements.{All-nil}
use Rattle.pipe_base.specs.Failed.{time_of}
use Rattle.pipe_base.specs.declared.message.Key.{Key}
use Rattle.pipe_base.specs.declared.message.Service.{Service}
use Rattle.pipe_base.specs.declared.message.Service.TheVariants.{BestEffort, Reliable}
use Rattle.pipe_base.specs.declared.name.HostId.{HostId}
use Rattle.pipe_base.specs.declared.name.LinkId.{LinkId}
use Rattle.pipe_base.specs.declared.name.Ts.{Ts}
use Rattle.pipe_base.specs.declared.packet.Packet.{Packet}
use Rattle.pipe_base.specs.declared.packet.PacketKind.{PacketKind}
use Rattle.pipe_base.specs.declared.packet.PacketKind.TheVariants.{Prepare}
use Rattle.pipe_base.specs.declared.step.Fate.{Fate}
use Rattle.pipe_base.specs.declared.step.Fate.TheVariants.{Held, Late, Repeat, Discarded}
use Rattle.pipe_base.specs.Fate.{fate_of, is_holding, fate_among, fate_from}
use Rattle.pipe_graph.specs.Graph.{Graph}
use Rattle.pipe_base.specs.Messages.{Messages, has_key, same_key}
use Rattle.pipe_base.specs.Packets.{Fields, sent_to}
use Rattle.pipe_base.proofs.MessageLaws.{has_with, same_key-refl}
use Rattle.pipe_model.specs.declared.record.Record.{Record}
use Rattle.pipe_model.specs.declared.record.Took.TheVariants.{Link}
use Rattle.pipe_model.specs.Acknowledged.{AreAcksTrue, HasHeld, IsAckTrue}
use Rattle.pipe_model.specs.Acting.{is_own, own}
use Rattle.pipe_model.specs.Duties.{fields}
use Rattle.pipe_model.specs.Fate.{fate, fate_for, fate_in, held, plane_of, recalled_for, with_held}
use Rattle.pipe_model.specs.Got.{carries, gets, got, key_of, message_of}
use Rattle.pipe_model.specs.Moments.{barrier_at, moments_of, noted_hosts}
use Rattle.pipe_model.specs.Recalls.{got_recall}
use Rattle.pipe_model.specs.Run.{IsHistory, IsNodeStep, IsStep}
use Rattle.pipe_model.proofs.Own.{own_more, own_same}
use Rattle.pipe_model_net.proofs.Acting.{nobodys_or_own, quiet_puts}
use Rattle.pipe_model_net.proofs.Owed.{puts_each}
use Rattle.pipe_model_net.proofs.Packets.{all_packets_keep}
use Rattle.pipe_model_net.proofs.Sent.{received_took}

-- ---- what was held stays held

held_stays : (f : Option Fate) (o : Option Packet) (ms : Messages) (key : Key) → has_key key ms ≡ true → has_key key (with_held f o ms) ≡ true
held_stays (Some Held) (Some p) ms key has = has_with (key_of p) p.body key ms ∙ or_right (same_key (key_of p) key) (has_key key ms) has
held_stays _ _ ms key has = has

stays_by : (b : Bool) (graph : Graph) (host : ℕ) (key : Key) (past : List Record) (r : Record) → is_own graph host r ≡ b → HasHeld graph host key past
    → HasHeld graph host key (r ∷ past)
stays_by true graph host key past r mine has =
    let o : List Record = own graph host past in
    subst (λ (x : List Record). has_key key (held Reliable graph host x) ≡ true) (sym (own_more graph host r past mine))
    (held_stays (fate_in Reliable graph host o r) (got Reliable graph host o r)
    (held Reliable graph host o) key has)
stays_by false graph host key past r other has =
    subst (λ (x : List Record). has_key key (held Reliable graph host x) ≡ true) (sym (own_same graph host r past other)) has

pub has_held_stays : (graph : Graph) (host : ℕ) (key : Key) (past : List Record) (r : Record) → HasHeld graph host key past → HasHeld graph host key (r ∷ past)
has_held_stays graph host key past r has = stays_by (is_own graph host r) graph host key past r refl has

-- ---- a message that is answered is held

-- late, or void, or taken back, or a repeat of one that is held, or held from now on
holding_again : (again : Bool) (p : Packet) (ms : Messages) → has_key (key_of p) ms ≡ again
    → has_key (key_of p) (with_held (Some (if again then Repeat else Held)) (Some p) ms) ≡ true
holding_again true p ms has = has
holding_again false p ms has =
    has_with (key_of p) p.body (key_of p) ms ∙ or_left (same_key (key_of p) (key_of p)) (has_key (key_of p) ms) (same_key-refl (key_of p))

holding_among : (recalled : Bool) (p : Packet) (ms : Messages) → is_holding (Some (fate_among recalled ms (key_of p))) ≡ true
    → has_key (key_of p) (with_held (Some (fate_among recalled ms (key_of p))) (Some p) ms) ≡ true
holding_among true p ms holding = cc
holding_among false p ms holding = holding_again (has_key (key_of p) ms) p ms refl

holding_void : (void : Bool) (time : Ts) (recalled : Bool) (p : Packet) (ms : Messages)
    → is_holding (Some (if void then Discarded time else fate_among recalled ms (key_of p))) ≡ true
    → has_key (key_of p) (with_held (Some (if void then Discarded time else fate_among recalled ms (key_of p))) (Some p) ms) ≡ true
holding_void true time recalled p ms holding = cc
holding_void false time recalled p ms holding = holding_among recalled p ms holding

holding_from : (failed : Option Ts) (recalled : Bool) (p : Packet) (ms : Messages) → is_holding (Some (fate_from failed recalled ms (key_of p))) ≡ true
    → has_key (key_of p) (with_held (Some (fate_from failed recalled ms (key_of p))) (Some p) ms) ≡ true
holding_from None recalled p ms holding = holding_among recalled p ms holding
holding_from (Some time) recalled p ms holding = holding_void (nat_le time.0 p.ts.0) time recalled p ms holding

holding_has : (late : Bool) (b : ℕ) (failed : Option Ts) (recalled : Bool) (p : Packet) (ms : Messages)
    → is_holding (Some (if late then Late (record { 0 = b }) else fate_from failed recalled ms (key_of p))) ≡ true
    → has_key (key_of p) (with_held (Some (if late then Late (record { 0 = b }) else fate_from failed recalled ms (key_of p))) (Some p) ms) ≡ true
holding_has true b failed recalled p ms holding = cc
holding_has false b failed recalled p ms holding = holding_from failed recalled p ms holding

-- a reliable message is no best-effort one
other_service : (k : PacketKind) → carries Reliable k ≡ true → carries BestEffort k ≡ false
other_service Prepare is = refl
other_service _ is = cc

no_message : (p : Packet) → carries BestEffort p.kind ≡ false → message_of BestEffort (Some p) ≡ None
no_message p isnt = rw isnt refl

one_message : (p : Packet) → carries Reliable p.kind ≡ true → message_of Reliable (Some p) ≡ Some p
one_message p is = rw is refl

-- the fate of a record that brings a reliable message
pub reliable_fate : (graph : Graph) (node : ℕ) (own : List Record) (r : Record) (p : Packet) → gets graph node own r ≡ Some p → carries Reliable p.kind ≡ true
    → fate graph node own r ≡ Some (fate_of (barrier_at (plane_of Reliable) graph node own) (time_of p.src.0 (noted_hosts own)) (got_recall graph node (key_of p) own)
    (held Reliable graph node own) (key_of p))
reliable_fate graph node own r p gets_is is =
    let best : got BestEffort graph node own r ≡ None = ap (message_of BestEffort) gets_is ∙ no_message p (other_service p.kind is) in
    let reliable : got Reliable graph node own r ≡ Some p = ap (message_of Reliable) gets_is ∙ one_message p is in
    ap (λ (o : Option Packet). option_or (fate_for (barrier_at (plane_of BestEffort) graph node own) [] (recalled_for BestEffort graph node own) (held BestEffort graph node own) o) (fate_in Reliable graph node own r)) best
    ∙ ap (fate_for (barrier_at (plane_of Reliable) graph node own) (noted_hosts own) (recalled_for Reliable graph node own) (held Reliable graph node own)) reliable

answered_has : (graph : Graph) (node : ℕ) (own : List Record) (r : Record) (p : Packet) → IsNodeStep graph node own r → gets graph node own r ≡ Some p
    → carries Reliable p.kind ≡ true → is_holding r.step.fate ≡ true → has_key (key_of p) (held Reliable graph node (r ∷ own)) ≡ true
answered_has graph node own r p step gets_is is holding =
    let b : ℕ = barrier_at (plane_of Reliable) graph node own in
    let ms : Messages = held Reliable graph node own in
    let reliable : Some p ≡ got Reliable graph node own r = sym (ap (message_of Reliable) gets_is ∙ one_message p is) in
    let recalled : Bool = got_recall graph node (key_of p) own in
    let held_by : is_holding (Some (fate_of b (time_of p.src.0 (noted_hosts own)) recalled ms (key_of p))) ≡ true =
    ap is_holding (sym (step.fate_is ∙ reliable_fate graph node own r p gets_is is)) ∙ holding in
    subst (λ (o : Option Packet). has_key (key_of p) (with_held (fate_for b (noted_hosts own) (recalled_for Reliable graph node own) ms o) o ms) ≡ true) reliable
    (holding_has (nat_lt p.ts.0 b) b (time_of p.src.0 (noted_hosts own)) recalled p ms held_by)

answer_true : (graph : Graph) (past : List Record) (r : Record) (n : ℕ) (p : Packet) → IsStep graph past r → is_own graph n r ≡ true
    → gets graph n (own graph n past) r ≡ Some p → carries Reliable p.kind ≡ true → is_holding r.step.fate ≡ true → HasHeld graph n (key_of p) (r ∷ past)
answer_true graph past r n p step mine gets_is is holding =
    subst (λ (x : List Record). has_key (key_of p) (held Reliable graph n x) ≡ true) (sym (own_more graph n r past mine))
    (answered_has graph n (own graph n past) r p (step.node n mine) gets_is is holding)

-- ---- all packets

-- a message is no acknowledgement
sent_true : (service : Service) (graph : Graph) (past : List Record) (src : HostId) (ts : Ts) (f : Fields) (d : HostId × List ℕ) → IsAckTrue graph past (sent_to service src ts f d)
sent_true BestEffort graph past src ts f d is = cc
sent_true Reliable graph past src ts f d is = cc

ack_still : (graph : Graph) (past : List Record) (r : Record) (p : Packet) → IsAckTrue graph past p → IsAckTrue graph (r ∷ past) p
ack_still graph past r p holds is = has_held_stays graph p.src.0 (record { ts = p.ts; src = p.dst }) past r (holds is)

puts_of_own : (graph : Graph) (past : List Record) (r : Record) (n : ℕ) → IsStep graph past r → is_own graph n r ≡ true
    → ((l : LinkId) (p : Packet) → r.took ≡ Link l p → IsAckTrue graph past p) → All (λ q. IsAckTrue graph (r ∷ past) q.1) r.step.put
puts_of_own graph past r n step mine before =
    let o : List Record = own graph n past in
    let f : Fields = fields graph n o r in
    puts_each (IsAckTrue graph (r ∷ past)) graph n o r (step.node n mine) (record {
      sent = λ host service now ts dests event stamp d among. sent_true service graph (r ∷ past) host ts f d;
      resent = λ s among d listed. sent_true Reliable graph (r ∷ past) (record { 0 = n }) s.ts f d;
      recalled = λ s among is d listed ack. cc;
      passed = λ q at half other.
          let took = received_took (moments_of graph n o) r.event r.took q at in ack_still graph past r q.1 (before took.0 q.1 took.1);
      answered = λ p gets_is host reliable holding is. answer_true graph past r n p step mine gets_is reliable holding;
      took_back = λ p gets_is host is ack. cc;
      beacon_too = λ is. cc;
    })

puts_true : (graph : Graph) (past : List Record) (r : Record) → IsHistory graph past → IsStep graph past r
    → ((l : LinkId) (p : Packet) → r.took ≡ Link l p → IsAckTrue graph past p) → All (λ q. IsAckTrue graph (r ∷ past) q.1) r.step.put
puts_true graph past r run step before =
    elim (nobodys_or_own graph r) [
      | inl quiet ↦ subst (λ (puts : List (LinkId × Packet)). All (λ (q : LinkId × Packet). IsAckTrue graph (r ∷ past) q.1) puts)
          (sym (quiet_puts graph past r step quiet)) (All-nil (λ (q : LinkId × Packet). IsAckTrue graph (r ∷ past) q.1))
      | inr own_of ↦ puts_of_own graph past r own_of.0 step own_of.1 before
    ]

pub acks_true : (graph : Graph) (past : List Record) → IsHistory graph past → AreAcksTrue graph past
acks_true graph past run = all_packets_keep graph (IsAckTrue graph) (record { stays = λ before r p history step holds. ack_still graph before r p holds; starts = puts_true graph }) past run
