-- A message is taken back only where its sender recalls the scattering: a tick puts such packets for recalled scatterings alone,
-- and what is recalled stays recalled.
use Rattle.std.proofs.Common.{◌≡◌, ℕ, ◌<◌, ◌≤◌, ◌==◌, not, Bool, true, false, List, [], ◌∷◌, refl, inl, inr, sym, subst, ap, ◌∙◌, arith, eqb-true, eq-eqb}
use Rattle.std.specs.List.{All, Contains, list_any}
use Rattle.std.proofs.lemmas.Bool.{or_cases, or_left}
use Rattle.std.proofs.lemmas.List.Elements.{All-nil, All-cons, All-append, All-contains, All-contains_itself, All-filter, All-head, All-tail, All-weaker}
use Rattle.std.proofs.lemmas.List.Folds.{list_any-append, list_any_at}
use Rattle.pipe_base.specs.declared.message.Service.{Service}
use Rattle.pipe_base.specs.declared.message.Service.TheVariants.{BestEffort, Reliable}
use Rattle.pipe_base.specs.declared.name.HostId.{HostId}
use Rattle.pipe_base.specs.declared.name.LinkId.{LinkId}
use Rattle.pipe_base.specs.declared.name.Ts.{Ts}
use Rattle.pipe_base.specs.declared.packet.Packet.{Packet}
use Rattle.pipe_graph.specs.Graph.{Graph}
use Rattle.pipe_base.specs.Packets.{Fields, sent_to}
use Rattle.pipe_base.specs.Scattering.{Scattering, SenderCall, Began, AreRising, begun, is_begun}
use Rattle.pipe_base.specs.Settled.{is_recalled, is_settled, unsettled}
use Rattle.pipe_base.proofs.SenderLaws.{recalled_stays}
use Rattle.pipe_model.specs.declared.record.Record.{Record}
use Rattle.pipe_model.specs.declared.record.Took.TheVariants.{Link}
use Rattle.pipe_model.specs.Acting.{is_own, own}
use Rattle.pipe_model.specs.Clock.{next}
use Rattle.pipe_model.specs.Duties.{fields}
use Rattle.pipe_model.specs.Moments.{moments_of}
use Rattle.pipe_model.specs.Recalled.{AreRecallsTrue, IsRecallTrue, IsTakenBack}
use Rattle.pipe_model.specs.Run.{IsHistory, IsNodeStep, IsStep}
use Rattle.pipe_model.specs.Sender.{sender_calls}
use Rattle.pipe_model.proofs.Own.{node_history, own_more, own_same}
use Rattle.pipe_model.proofs.Promises.{BeginsNone, begun_below_next, begun_rise, begun_same, calls_after}
use Rattle.pipe_model.proofs.Stamps.{stamp_above}
use Rattle.pipe_model_net.proofs.Acting.{nobodys_or_own, quiet_puts}
use Rattle.pipe_model_net.proofs.Owed.{puts_each}
use Rattle.pipe_model_net.proofs.Packets.{all_packets_keep}
use Rattle.pipe_model_net.proofs.Sent.{received_took}

-- ---- what is recalled stays recalled, as no later scattering has its timestamp

below_by : (ss : List Scattering) (ts bound : ℕ) → list_any (λ s. s.ts.0 == ts) ss ≡ true → All (λ s. s.ts.0 < bound) ss → ts < bound
below_by [] ts bound is all = cc
below_by (s ∷ ss) ts bound is all =
    elim (or_cases (s.ts.0 == ts) (list_any (λ (t : Scattering). t.ts.0 == ts) ss) is) [
      | inl here ↦ subst (λ (n : ℕ). n < bound) (eqb-true s.ts.0 ts here) (All-head (λ (t : Scattering). t.ts.0 < bound) s ss all)
      | inr later ↦ below_by ss ts bound later (All-tail (λ (t : Scattering). t.ts.0 < bound) s ss all)
    ]

-- a scattering from a bound on that is above all that were begun
begun_back : (s : Scattering) (calls : List SenderCall) (ts bound : ℕ) → All (λ t. t.ts.0 < bound) (begun calls) → bound ≤ s.ts.0 → IsTakenBack calls ts
    → IsTakenBack (Began s ∷ calls) ts
begun_back s calls ts bound below above back =
    let IsBack : Scattering → Type 0 = λ t. t.ts.0 ≡ ts → is_recalled calls t ≡ true in
    let old : ts < bound = below_by (begun calls) ts bound back.sent below in
    record {
      sent = list_any-append (λ (t : Scattering). t.ts.0 == ts) (begun calls) (s ∷ []) ∙ or_left (is_begun calls ts) (list_any (λ (t : Scattering). t.ts.0 == ts) (s ∷ [])) back.sent;
      recalled = All-append IsBack (begun calls) (s ∷ []) back.recalled (All-cons IsBack s [] (λ same. absurd (omega (arith, same, old, above))) (All-nil IsBack));
    }

other_back : (c : SenderCall) (calls : List SenderCall) (ts : ℕ) → BeginsNone c → IsTakenBack calls ts → IsTakenBack (c ∷ calls) ts
other_back c calls ts none back =
    let same : begun (c ∷ calls) ≡ begun calls = begun_same c calls none in
    let IsBack : Scattering → Type 0 = λ t. t.ts.0 ≡ ts → is_recalled (c ∷ calls) t ≡ true in
    record {
      sent = ap (list_any (λ (t : Scattering). t.ts.0 == ts)) same ∙ back.sent;
      recalled = subst (All IsBack) (sym same)
          (All-weaker (λ (t : Scattering). t.ts.0 ≡ ts → is_recalled calls t ≡ true) IsBack (λ t was at. recalled_stays c calls t (was at)) (begun calls) back.recalled);
    }

pub back_stays : (graph : Graph) (node : ℕ) (own : List Record) (r : Record) (ts : ℕ) → IsNodeStep graph node own r → IsTakenBack (sender_calls graph node own) ts
    → IsTakenBack (sender_calls graph node (r ∷ own)) ts
back_stays graph node own r ts step back =
    calls_after (λ (c : List SenderCall). IsTakenBack c ts) graph node own r
    (λ host now stamp dests event is.
    begun_back (record { ts = stamp; dests = dests }) (sender_calls graph node own) ts (next graph node own) (begun_below_next graph node own)
    (stamp_above graph node own r.event stamp (sym step.stamped_is ∙ is)) back)
    (λ past c none was. other_back c past ts none was) back

still_by : (b : Bool) (graph : Graph) (node : ℕ) (past : List Record) (r : Record) (ts : ℕ) → is_own graph node r ≡ b → IsStep graph past r
    → IsTakenBack (sender_calls graph node (own graph node past)) ts → IsTakenBack (sender_calls graph node (own graph node (r ∷ past))) ts
still_by true graph node past r ts mine step back =
    subst (λ (o : List Record). IsTakenBack (sender_calls graph node o) ts) (sym (own_more graph node r past mine))
    (back_stays graph node (own graph node past) r ts (step.node node mine) back)
still_by false graph node past r ts other step back =
    subst (λ (o : List Record). IsTakenBack (sender_calls graph node o) ts) (sym (own_same graph node r past other)) back

recall_still : (graph : Graph) (past : List Record) (r : Record) (p : Packet) → IsStep graph past r → IsRecallTrue graph past p → IsRecallTrue graph (r ∷ past) p
recall_still graph past r p step holds is = still_by (is_own graph p.src.0 r) graph p.src.0 past r p.ts.0 refl step (holds is)

-- ---- a scattering that is recalled is the one with its timestamp

abbrev IsAlone : List Scattering → Scattering → Type 0
IsAlone ss s = All (λ t. t.ts.0 ≡ s.ts.0 → t ≡ s) ss

alone_first : (s : Scattering) (ss : List Scattering) → All (λ t. s.ts.0 < t.ts.0) ss → IsAlone (s ∷ ss) s
alone_first s ss above =
    let IsSame : Scattering → Type 0 = λ t. t.ts.0 ≡ s.ts.0 → t ≡ s in
    All-cons IsSame s ss (λ same. refl)
    (All-weaker (λ (t : Scattering). s.ts.0 < t.ts.0) IsSame (λ t lt same. absurd (omega (arith, lt, same))) ss above)

alone_later : (x s : Scattering) (ss : List Scattering) → x.ts.0 < s.ts.0 → IsAlone ss s → IsAlone (x ∷ ss) s
alone_later x s ss lt alone = All-cons (λ (t : Scattering). t.ts.0 ≡ s.ts.0 → t ≡ s) x ss (λ same. absurd (omega (arith, lt, same))) alone

each_alone : (ss : List Scattering) → AreRising ss → All (IsAlone ss) ss
each_alone [] rising = All-nil (IsAlone [])
each_alone (x ∷ ss) rising =
    All-cons (IsAlone (x ∷ ss)) x ss (alone_first x ss rising.0) (λ k d lt. alone_later x _ ss (rising.0 k d lt) (each_alone ss rising.1 k d lt))

-- what holds of all that were begun holds of one that is not settled
of_unsettled : (P : Scattering → Type 0) (calls : List SenderCall) (s : Scattering) → All P (begun calls) → Contains (unsettled calls) s → P s
of_unsettled P calls s all among =
    All-contains P (unsettled calls) s (All-filter (λ (t : Scattering). not (is_settled calls t)) P (begun calls) all) among

begun_at : (ss : List Scattering) (s : Scattering) → Contains ss s → list_any (λ t. t.ts.0 == s.ts.0) ss ≡ true
begun_at ss s among =
    list_any_at (λ (t : Scattering). t.ts.0 == s.ts.0) ss among.0 s among.1 (ap (λ (t : Scattering). t.ts.0 == s.ts.0) among.2 ∙ eq-eqb s.ts.0 s.ts.0 refl)

back_now : (calls : List SenderCall) (s : Scattering) → AreRising (begun calls) → Contains (unsettled calls) s → is_recalled calls s ≡ true → IsTakenBack calls s.ts.0
back_now calls s rising among recalled =
    let alone : IsAlone (begun calls) s = of_unsettled (IsAlone (begun calls)) calls s (each_alone (begun calls) rising) among in
    record {
      sent = begun_at (begun calls) s (of_unsettled (Contains (begun calls)) calls s (All-contains_itself (begun calls)) among);
      recalled = All-weaker (λ (t : Scattering). t.ts.0 ≡ s.ts.0 → t ≡ s) (λ (t : Scattering). t.ts.0 ≡ s.ts.0 → is_recalled calls t ≡ true)
          (λ t same at. ap (is_recalled calls) (same at) ∙ recalled) (begun calls) alone;
    }

-- ---- all packets

-- a message takes none back
sent_true : (service : Service) (graph : Graph) (past : List Record) (src : HostId) (ts : Ts) (f : Fields) (d : HostId × List ℕ)
    → IsRecallTrue graph past (sent_to service src ts f d)
sent_true BestEffort graph past src ts f d is = cc
sent_true Reliable graph past src ts f d is = cc

put_back : (graph : Graph) (past : List Record) (r : Record) (n : ℕ) (s : Scattering) → IsHistory graph past → IsStep graph past r → is_own graph n r ≡ true
    → Contains (unsettled (sender_calls graph n (r ∷ own graph n past))) s → is_recalled (sender_calls graph n (r ∷ own graph n past)) s ≡ true
    → IsTakenBack (sender_calls graph n (own graph n (r ∷ past))) s.ts.0
put_back graph past r n s run step mine among is =
    let o : List Record = own graph n past in
    subst (λ (x : List Record). IsTakenBack (sender_calls graph n x) s.ts.0) (sym (own_more graph n r past mine))
    (back_now (sender_calls graph n (r ∷ o)) s (begun_rise graph n (r ∷ o) (node_history graph n past run, step.node n mine)) among is)

puts_of_own : (graph : Graph) (past : List Record) (r : Record) (n : ℕ) → IsHistory graph past → IsStep graph past r → is_own graph n r ≡ true
    → ((l : LinkId) (p : Packet) → r.took ≡ Link l p → IsRecallTrue graph past p) → All (λ q. IsRecallTrue graph (r ∷ past) q.1) r.step.put
puts_of_own graph past r n run step mine before =
    let o : List Record = own graph n past in
    let f : Fields = fields graph n o r in
    puts_each (IsRecallTrue graph (r ∷ past)) graph n o r (step.node n mine) (record {
      sent = λ host service now ts dests event stamp d among. sent_true service graph (r ∷ past) host ts f d;
      resent = λ s among d listed. sent_true Reliable graph (r ∷ past) (record { 0 = n }) s.ts f d;
      recalled = λ s among is d listed kind. put_back graph past r n s run step mine among is;
      passed = λ q at half other.
          let took = received_took (moments_of graph n o) r.event r.took q at in recall_still graph past r q.1 step (before took.0 q.1 took.1);
      answered = λ p gets_is host reliable holding kind. cc;
      took_back = λ p gets_is host is kind. cc;
      beacon_too = λ kind. cc;
    })

puts_true : (graph : Graph) (past : List Record) (r : Record) → IsHistory graph past → IsStep graph past r
    → ((l : LinkId) (p : Packet) → r.took ≡ Link l p → IsRecallTrue graph past p) → All (λ q. IsRecallTrue graph (r ∷ past) q.1) r.step.put
puts_true graph past r run step before =
    elim (nobodys_or_own graph r) [
      | inl quiet ↦ subst (λ (puts : List (LinkId × Packet)). All (λ (q : LinkId × Packet). IsRecallTrue graph (r ∷ past) q.1) puts)
          (sym (quiet_puts graph past r step quiet)) (All-nil (λ (q : LinkId × Packet). IsRecallTrue graph (r ∷ past) q.1))
      | inr own_of ↦ puts_of_own graph past r own_of.0 run step own_of.1 before
    ]

pub recalls_true : (graph : Graph) (past : List Record) → IsHistory graph past → AreRecallsTrue graph past
recalls_true graph past run =
    all_packets_keep graph (IsRecallTrue graph)
    (record { stays = λ before r p history step holds. recall_still graph before r p step holds; starts = puts_true graph }) past run
