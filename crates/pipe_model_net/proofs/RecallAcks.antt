-- Answers to recalls are true: a host puts one in the record that brings the recall. So what counts as taken back by a receiver
-- was taken back there.
use Rattle.std.proofs.Common.{◌≡◌, ◌⊎◌, ℕ, ◌==◌, ◌&&◌, if◌then◌else◌, Bool, true, false, List, [], ◌∷◌, Option, None, Some, refl, inl, inr, sym, subst, ap, ◌∙◌, eqb-true}
use Rattle.std.specs.List.{All}
use Rattle.std.proofs.lemmas.Bool.{and_from, and_parts, or_cases, or_left}
use Rattle.std.proofs.lemmas.List.Elements.{All-nil}
use Rattle.pipe_base.specs.declared.control.Announced.{Announced}
use Rattle.pipe_base.specs.declared.message.Key.{Key}
use Rattle.pipe_base.specs.declared.message.Service.{Service}
use Rattle.pipe_base.specs.declared.message.Service.TheVariants.{BestEffort, Reliable}
use Rattle.pipe_base.specs.declared.name.HostId.{HostId}
use Rattle.pipe_base.specs.declared.name.LinkId.{LinkId}
use Rattle.pipe_base.specs.declared.name.Ts.{Ts}
use Rattle.pipe_base.specs.declared.packet.Packet.{Packet}
use Rattle.pipe_graph.specs.Graph.{Graph}
use Rattle.pipe_base.specs.Packets.{Fields, sent_to}
use Rattle.pipe_base.specs.Scattering.{Scattering, SenderCall, Acked, RecallAcked}
use Rattle.pipe_base.specs.Settled.{is_recall_acked, is_recalled}
use Rattle.pipe_base.proofs.MessageLaws.{same_key-refl}
use Rattle.pipe_model.specs.declared.event.Event.{Event}
use Rattle.pipe_model.specs.declared.event.Event.TheVariants.{Send}
use Rattle.pipe_model.specs.declared.record.Record.{Record}
use Rattle.pipe_model.specs.declared.record.Took.TheVariants.{Link}
use Rattle.pipe_model.specs.Acting.{is_own, own}
use Rattle.pipe_model.specs.AllOrNone.{key_from}
use Rattle.pipe_model.specs.Duties.{fields}
use Rattle.pipe_model.specs.Got.{gets, key_of}
use Rattle.pipe_model.specs.Moments.{moments_of, noted_hosts, received}
use Rattle.pipe_model.specs.Packets.{receipts}
use Rattle.pipe_model.specs.Recalled.{AreRecallAcksTrue, IsRecallAckTrue}
use Rattle.pipe_model.specs.Recalls.{got_recall, is_recall, takes_back}
use Rattle.pipe_model.specs.Run.{IsHistory, IsStep}
use Rattle.pipe_model.specs.Sender.{accepted_stamp, is_ack, is_recall_ack, sender_calls, with_answer, with_begun, with_noted}
use Rattle.pipe_model.proofs.Own.{own_more, own_same}
use Rattle.pipe_model.proofs.Recalls.{recall_stays}
use Rattle.pipe_model_net.proofs.Acting.{nobodys_or_own, quiet_puts}
use Rattle.pipe_model_net.proofs.Owed.{puts_each}
use Rattle.pipe_model_net.proofs.Packets.{all_packets_keep}
use Rattle.pipe_model_net.proofs.Prepared.{is_got, newest, rest_of}
use Rattle.pipe_model_net.proofs.Sent.{received_took}

-- ---- what was taken back at a host stays so

-- the host was told to take the message back
abbrev pub HasTakenBack : Graph → ℕ → Key → List Record → Type 0
HasTakenBack graph host key past = got_recall graph host key (own graph host past) ≡ true

still_by : (b : Bool) (graph : Graph) (host : ℕ) (key : Key) (past : List Record) (r : Record) → is_own graph host r ≡ b → HasTakenBack graph host key past
    → HasTakenBack graph host key (r ∷ past)
still_by true graph host key past r mine got =
    subst (λ (o : List Record). got_recall graph host key o ≡ true) (sym (own_more graph host r past mine)) (recall_stays graph host key (own graph host past) r got)
still_by false graph host key past r other got =
    subst (λ (o : List Record). got_recall graph host key o ≡ true) (sym (own_same graph host r past other)) got

ack_still : (graph : Graph) (past : List Record) (r : Record) (p : Packet) → IsRecallAckTrue graph past p → IsRecallAckTrue graph (r ∷ past) p
ack_still graph past r p holds is = still_by (is_own graph p.src.0 r) graph p.src.0 (record { ts = p.ts; src = p.dst }) past r refl (holds is)

-- ---- a host answers the recall that it gets

back_by : (o : Option Packet) (p : Packet) → o ≡ Some p → is_recall p.kind ≡ true → takes_back (key_of p) o ≡ true
back_by o p gets_is is = ap (takes_back (key_of p)) gets_is ∙ and_from (is_recall p.kind) _ is (same_key-refl (key_of p))

back_now : (graph : Graph) (past : List Record) (r : Record) (n : ℕ) (p : Packet) → is_own graph n r ≡ true → gets graph n (own graph n past) r ≡ Some p
    → is_recall p.kind ≡ true → HasTakenBack graph n (key_of p) (r ∷ past)
back_now graph past r n p mine gets_is is =
    let o : List Record = own graph n past in
    subst (λ (x : List Record). got_recall graph n (key_of p) x ≡ true) (sym (own_more graph n r past mine))
    (or_left (takes_back (key_of p) (gets graph n o r)) (got_recall graph n (key_of p) o) (back_by (gets graph n o r) p gets_is is))

-- ---- all packets

-- a message answers no recall
sent_true : (service : Service) (graph : Graph) (past : List Record) (src : HostId) (ts : Ts) (f : Fields) (d : HostId × List ℕ)
    → IsRecallAckTrue graph past (sent_to service src ts f d)
sent_true BestEffort graph past src ts f d is = cc
sent_true Reliable graph past src ts f d is = cc

puts_of_own : (graph : Graph) (past : List Record) (r : Record) (n : ℕ) → IsStep graph past r → is_own graph n r ≡ true
    → ((l : LinkId) (p : Packet) → r.took ≡ Link l p → IsRecallAckTrue graph past p) → All (λ q. IsRecallAckTrue graph (r ∷ past) q.1) r.step.put
puts_of_own graph past r n step mine before =
    let o : List Record = own graph n past in
    let f : Fields = fields graph n o r in
    puts_each (IsRecallAckTrue graph (r ∷ past)) graph n o r (step.node n mine) (record {
      sent = λ host service now ts dests event stamp d among. sent_true service graph (r ∷ past) host ts f d;
      resent = λ s among d listed. sent_true Reliable graph (r ∷ past) (record { 0 = n }) s.ts f d;
      recalled = λ s among is d listed kind. cc;
      passed = λ q at half other.
          let took = received_took (moments_of graph n o) r.event r.took q at in ack_still graph past r q.1 (before took.0 q.1 took.1);
      answered = λ p gets_is host reliable holding kind. cc;
      took_back = λ p gets_is host is kind. back_now graph past r n p mine gets_is is;
      beacon_too = λ kind. cc;
    })

puts_true : (graph : Graph) (past : List Record) (r : Record) → IsHistory graph past → IsStep graph past r
    → ((l : LinkId) (p : Packet) → r.took ≡ Link l p → IsRecallAckTrue graph past p) → All (λ q. IsRecallAckTrue graph (r ∷ past) q.1) r.step.put
puts_true graph past r run step before =
    elim (nobodys_or_own graph r) [
      | inl quiet ↦ subst (λ (puts : List (LinkId × Packet)). All (λ (q : LinkId × Packet). IsRecallAckTrue graph (r ∷ past) q.1) puts)
          (sym (quiet_puts graph past r step quiet)) (All-nil (λ (q : LinkId × Packet). IsRecallAckTrue graph (r ∷ past) q.1))
      | inr own_of ↦ puts_of_own graph past r own_of.0 step own_of.1 before
    ]

pub recall_acks_true : (graph : Graph) (past : List Record) → IsHistory graph past → AreRecallAcksTrue graph past
recall_acks_true graph past run =
    all_packets_keep graph (IsRecallAckTrue graph)
    (record { stays = λ before r p history step holds. ack_still graph before r p holds; starts = puts_true graph }) past run

-- ---- an answer that counts was received

abbrev Receipt : Graph → List Record → (ℕ × Packet) → Type 0
Receipt graph past q = IsRecallAckTrue graph past q.1

-- the message of a host under this timestamp was taken back at the other one
abbrev WasBack : Graph → List Record → ℕ → ℕ → ℕ → Type 0
WasBack graph past host ts other = HasTakenBack graph other (record { ts = record { 0 = ts }; src = record { 0 = host } }) past

begun_counts : (event : Event) (stamp : Option Ts) (calls : List SenderCall) (s : Scattering) (other : ℕ) → is_recall_acked (with_begun event stamp calls) s other ≡ true
    → is_recall_acked calls s other ≡ true
begun_counts (Send host Reliable now dests) (Some stamp) calls s other is = is
begun_counts _ _ calls s other is = is

noted_counts : (noted new : List Announced) (calls : List SenderCall) (s : Scattering) (other : ℕ) → is_recall_acked (with_noted noted new calls) s other ≡ true
    → is_recall_acked calls s other ≡ true
noted_counts noted [] calls s other is = is
noted_counts noted (a ∷ more) calls s other is = is

-- this answer counts, or one before it
counted : (graph : Graph) (past : List Record) (host : ℕ) (s : Scattering) (other : ℕ) (p : Packet) (calls : List SenderCall) → IsRecallAckTrue graph past p
    → is_recall_ack p.kind ≡ true → p.dst.0 ≡ host → (is_recall_acked calls s other ≡ true → WasBack graph past host s.ts.0 other)
    → (((s.ts.0 == p.ts.0) && (other == p.src.0)) && is_recalled calls s ≡ true) ⊎ (is_recall_acked calls s other ≡ true) → WasBack graph past host s.ts.0 other
counted graph past host s other p calls holds ack dst before (inr old) = before old
counted graph past host s other p calls holds ack dst before (inl here) =
    let both = and_parts (s.ts.0 == p.ts.0) (other == p.src.0) (and_parts ((s.ts.0 == p.ts.0) && (other == p.src.0)) (is_recalled calls s) here).0 in
    subst (λ (n : ℕ). WasBack graph past host n other) (sym (eqb-true s.ts.0 p.ts.0 both.0))
    (subst (λ (n : ℕ). WasBack graph past host p.ts.0 n) (sym (eqb-true other p.src.0 both.1))
    (subst (λ (n : ℕ). WasBack graph past n p.ts.0 p.src.0) dst (holds ack)))

by_answer : (ack back : Bool) (graph : Graph) (past : List Record) (host : ℕ) (s : Scattering) (other : ℕ) (p : Packet) (calls : List SenderCall) → is_recall_ack p.kind ≡ back
    → IsRecallAckTrue graph past p → p.dst.0 ≡ host → (is_recall_acked calls s other ≡ true → WasBack graph past host s.ts.0 other)
    → is_recall_acked (if ack then Acked p.ts.0 p.src.0 ∷ calls else if back then RecallAcked p.ts.0 p.src.0 ∷ calls else calls) s other ≡ true
    → WasBack graph past host s.ts.0 other
by_answer true back graph past host s other p calls kind holds dst before is = before is
by_answer false true graph past host s other p calls kind holds dst before is =
    counted graph past host s other p calls holds kind dst before
    (or_cases (((s.ts.0 == p.ts.0) && (other == p.src.0)) && is_recalled calls s) (is_recall_acked calls s other) is)
by_answer false false graph past host s other p calls kind holds dst before is = before is

by_gets : (graph : Graph) (past : List Record) (host : ℕ) (s : Scattering) (other : ℕ) (o : Option Packet) (calls : List SenderCall)
    → ((p : Packet) → o ≡ Some p → IsRecallAckTrue graph past p × (p.dst.0 ≡ host)) → (is_recall_acked calls s other ≡ true → WasBack graph past host s.ts.0 other)
    → is_recall_acked (with_answer o calls) s other ≡ true → WasBack graph past host s.ts.0 other
by_gets graph past host s other None calls holds before is = before is
by_gets graph past host s other (Some p) calls holds before is =
    by_answer (is_ack p.kind) (is_recall_ack p.kind) graph past host s other p calls refl (holds p refl).0 (holds p refl).1 before is

-- whatever was received by the host is among the receipts, each of which is true
acked_back : (graph : Graph) (past : List Record) (host : ℕ) (own : List Record) → All (Receipt graph past) (receipts graph host own)
    → (s : Scattering) (other : ℕ) → is_recall_acked (sender_calls graph host own) s other ≡ true → WasBack graph past host s.ts.0 other
acked_back graph past host [] all s other is = cc
acked_back graph past host (r ∷ own) all s other is =
    let first : List SenderCall = with_begun r.event (accepted_stamp r.step) (sender_calls graph host own) in
    by_gets graph past host s other (gets graph host own r) first
    (λ p got.
    let w = is_got graph host (received graph host own r) p got in
    (newest (Receipt graph past) (received graph host own r) (w.link, p) (receipts graph host own) w.received_is all, w.dst))
    (λ old. acked_back graph past host own (rest_of (Receipt graph past) (received graph host own r) (receipts graph host own) all) s other
    (begun_counts r.event (accepted_stamp r.step) (sender_calls graph host own) s other old))
    (noted_counts (noted_hosts (r ∷ own)) r.step.noted (with_answer (gets graph host own r) first) s other is)

pub recall_acked_back : (graph : Graph) (past : List Record) → IsHistory graph past → (host other : ℕ) (s : Scattering)
    → is_recall_acked (sender_calls graph host (own graph host past)) s other ≡ true → got_recall graph other (key_from host s) (own graph other past) ≡ true
recall_acked_back graph past run host other s is =
    acked_back graph past host (own graph host past) ((recall_acks_true graph past run).received host) s other is
