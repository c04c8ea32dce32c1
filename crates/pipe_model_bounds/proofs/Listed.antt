-- A recall goes to a receiver of its scattering: a tick puts recalls for the listed receivers alone, and what was begun and is
-- recalled stays so.
use Rattle.std.proofs.Common.{◌≡◌, ℕ, not, Bool, true, false, List, [], ◌∷◌, refl, inl, inr, sym, subst}
use Rattle.std.specs.List.{All, Contains}
use Rattle.std.proofs.lemmas.List.Elements.{All-nil, All-contains, All-contains_itself, All-filter, Contains-append_left}
use Rattle.pipe_base.specs.declared.message.Service.{Service}
use Rattle.pipe_base.specs.declared.message.Service.TheVariants.{BestEffort, Reliable}
use Rattle.pipe_base.specs.declared.name.HostId.{HostId}
use Rattle.pipe_base.specs.declared.name.LinkId.{LinkId}
use Rattle.pipe_base.specs.declared.name.Ts.{Ts}
use Rattle.pipe_base.specs.declared.packet.Packet.{Packet}
use Rattle.pipe_graph.specs.Graph.{Graph}
use Rattle.pipe_base.specs.Packets.{Fields, sent_to}
use Rattle.pipe_base.specs.Scattering.{Scattering, SenderCall, Began, Acked, Noted, RecallAcked, begun}
use Rattle.pipe_base.specs.Settled.{is_recalled, is_settled, unsettled}
use Rattle.pipe_base.proofs.SenderLaws.{recalled_stays}
use Rattle.pipe_model.specs.declared.record.Record.{Record}
use Rattle.pipe_model.specs.declared.record.Took.TheVariants.{Link}
use Rattle.pipe_model.specs.Acting.{is_own, own}
use Rattle.pipe_model.specs.Duties.{fields}
use Rattle.pipe_model.specs.Moments.{moments_of}
use Rattle.pipe_model.specs.Run.{IsHistory, IsStep}
use Rattle.pipe_model.specs.Sender.{sender_calls}
use Rattle.pipe_model.proofs.Own.{own_more, own_same}
use Rattle.pipe_model.proofs.Promises.{calls_after}
use Rattle.pipe_model_net.proofs.Acting.{nobodys_or_own, quiet_puts}
use Rattle.pipe_model_net.proofs.Owed.{puts_each}
use Rattle.pipe_model_net.proofs.Packets.{all_packets_keep}
use Rattle.pipe_model_net.proofs.Sent.{received_took}
use Rattle.pipe_model_bounds.specs.RecallListed.{AreRecallsListed, IsReceiverRecalled, IsRecallListed}

-- ---- it stays so, whatever the sender is told

begun_still : (c : SenderCall) (calls : List SenderCall) (s : Scattering) → Contains (begun calls) s → Contains (begun (c ∷ calls)) s
begun_still (Began t) calls s among = Contains-append_left (begun calls) (t ∷ []) s among
begun_still (Acked ts host) calls s among = among
begun_still (Noted failed) calls s among = among
begun_still (RecallAcked ts host) calls s among = among

one_more : (c : SenderCall) (calls : List SenderCall) (ts : Ts) (host : HostId) → IsReceiverRecalled calls ts host → IsReceiverRecalled (c ∷ calls) ts host
one_more c calls ts host was = record {
  scattering = was.scattering;
  sent = begun_still c calls was.scattering was.sent;
  stamp = was.stamp;
  recalled = recalled_stays c calls was.scattering was.recalled;
  body = was.body;
  listed = was.listed;
}

still_by : (b : Bool) (graph : Graph) (node : ℕ) (past : List Record) (r : Record) (ts : Ts) (host : HostId) → is_own graph node r ≡ b
    → IsReceiverRecalled (sender_calls graph node (own graph node past)) ts host → IsReceiverRecalled (sender_calls graph node (own graph node (r ∷ past))) ts host
still_by true graph node past r ts host mine was =
    subst (λ (o : List Record). IsReceiverRecalled (sender_calls graph node o) ts host) (sym (own_more graph node r past mine))
    (calls_after (λ (c : List SenderCall). IsReceiverRecalled c ts host) graph node (own graph node past) r
    (λ src now stamp dests event is. one_more (Began (record { ts = stamp; dests = dests })) (sender_calls graph node (own graph node past)) ts host was)
    (λ calls c none before. one_more c calls ts host before) was)
still_by false graph node past r ts host other was =
    subst (λ (o : List Record). IsReceiverRecalled (sender_calls graph node o) ts host) (sym (own_same graph node r past other)) was

listed_still : (graph : Graph) (past : List Record) (r : Record) (p : Packet) → IsRecallListed graph past p → IsRecallListed graph (r ∷ past) p
listed_still graph past r p holds is = still_by (is_own graph p.src.0 r) graph p.src.0 past r p.ts p.dst refl (holds is)

-- ---- what is put

sent_listed : (service : Service) (graph : Graph) (past : List Record) (src : HostId) (ts : Ts) (f : Fields) (d : HostId × List ℕ)
    → IsRecallListed graph past (sent_to service src ts f d)
sent_listed BestEffort graph past src ts f d is = cc
sent_listed Reliable graph past src ts f d is = cc

put_listed : (graph : Graph) (past : List Record) (r : Record) (n : ℕ) (s : Scattering) (d : HostId × List ℕ) → is_own graph n r ≡ true
    → Contains (unsettled (sender_calls graph n (r ∷ own graph n past))) s → is_recalled (sender_calls graph n (r ∷ own graph n past)) s ≡ true → Contains s.dests d
    → IsReceiverRecalled (sender_calls graph n (own graph n (r ∷ past))) s.ts d.0
put_listed graph past r n s d mine among is listed =
    let calls : List SenderCall = sender_calls graph n (r ∷ own graph n past) in
    subst (λ (o : List Record). IsReceiverRecalled (sender_calls graph n o) s.ts d.0) (sym (own_more graph n r past mine)) (record {
      scattering = s;
      sent = All-contains (Contains (begun calls)) (unsettled calls) s
          (All-filter (λ (t : Scattering). not (is_settled calls t)) (Contains (begun calls)) (begun calls) (All-contains_itself (begun calls))) among;
      stamp = refl;
      recalled = is;
      body = d.1;
      listed = listed;
    })

puts_of_own : (graph : Graph) (past : List Record) (r : Record) (n : ℕ) → IsStep graph past r → is_own graph n r ≡ true
    → ((l : LinkId) (p : Packet) → r.took ≡ Link l p → IsRecallListed graph past p) → All (λ q. IsRecallListed graph (r ∷ past) q.1) r.step.put
puts_of_own graph past r n step mine before =
    let o : List Record = own graph n past in
    let f : Fields = fields graph n o r in
    puts_each (IsRecallListed graph (r ∷ past)) graph n o r (step.node n mine) (record {
      sent = λ host service now ts dests event stamp d among. sent_listed service graph (r ∷ past) host ts f d;
      resent = λ s among d listed. sent_listed Reliable graph (r ∷ past) (record { 0 = n }) s.ts f d;
      recalled = λ s among is d listed kind. put_listed graph past r n s d mine among is listed;
      passed = λ q at half other.
          let took = received_took (moments_of graph n o) r.event r.took q at in listed_still graph past r q.1 (before took.0 q.1 took.1);
      answered = λ p gets_is host reliable holding kind. cc;
      took_back = λ p gets_is host is kind. cc;
      beacon_too = λ kind. cc;
    })

puts_listed : (graph : Graph) (past : List Record) (r : Record) → IsHistory graph past → IsStep graph past r
    → ((l : LinkId) (p : Packet) → r.took ≡ Link l p → IsRecallListed graph past p) → All (λ q. IsRecallListed graph (r ∷ past) q.1) r.step.put
puts_listed graph past r run step before =
    elim (nobodys_or_own graph r) [
      | inl quiet ↦ subst (λ (puts : List (LinkId × Packet)). All (λ (q : LinkId × Packet). IsRecallListed graph (r ∷ past) q.1) puts)
          (sym (quiet_puts graph past r step quiet)) (All-nil (λ (q : LinkId × Packet). IsRecallListed graph (r ∷ past) q.1))
      | inr own_of ↦ puts_of_own graph past r own_of.0 step own_of.1 before
    ]

pub recalls_listed : (graph : Graph) (past : List Record) → IsHistory graph past → AreRecallsListed graph past
recalls_listed graph past run =
    all_packets_keep graph (IsRecallListed graph)
    (record { stays = λ before r p history step holds. listed_still graph before r p holds; starts = puts_listed graph }) past run
