-- No reliable message is late of itself: the barrier that passed it had to wait until its scattering was settled, and then its
-- receiver had held it, or had got its recall.
use Rattle.std.proofs.Common.{◌≡◌, ℕ, ◌<◌, ◌≤◌, nat_le, nat_lt, if◌then◌else◌, Bool, true, false, List, [], ◌∷◌, Option, None, Some, refl, inl, inr, sym, subst, ap, ◌∙◌, true≢false, arith}
use Rattle.std.proofs.lemmas.Bool.Decides.{nat_tests}
use Rattle.std.proofs.lemmas.List.Elements.{All-contains, All-tail}
use Rattle.pipe_base.specs.declared.message.Entry.{Entry}
use Rattle.pipe_base.specs.declared.message.Key.{Key}
use Rattle.pipe_base.specs.declared.message.Service.TheVariants.{Reliable}
use Rattle.pipe_base.specs.declared.name.HostId.{HostId}
use Rattle.pipe_base.specs.declared.name.Ts.{Ts}
use Rattle.pipe_base.specs.declared.packet.Packet.{Packet}
use Rattle.pipe_base.specs.declared.step.Fate.TheVariants.{Discarded, Held, Late, Recalled, Repeat}
use Rattle.pipe_base.specs.Failed.{is_announced, is_void, time_of}
use Rattle.pipe_base.specs.Fate.{fate_among, fate_from}
use Rattle.pipe_graph.specs.Graph.{Graph}
use Rattle.pipe_base.specs.Messages.{Messages, entry_of, has_key}
use Rattle.pipe_graph.specs.Reach.{JoinsAllHosts}
use Rattle.pipe_base.specs.Scattering.{Scattering, SenderCall}
use Rattle.pipe_base.specs.Settled.{is_noted, is_prepared, is_recall_acked, is_recalled, is_settled}
use Rattle.pipe_model.specs.declared.record.Record.{Record}
use Rattle.pipe_model.specs.Acknowledged.{HasHeld}
use Rattle.pipe_model.specs.Acting.{is_own, own}
use Rattle.pipe_model.specs.AllOrNone.{key_from}
use Rattle.pipe_model.specs.Controller.{announced}
use Rattle.pipe_model.specs.Correct.{IsCorrect}
use Rattle.pipe_model.specs.Event.{IsOfGraph}
use Rattle.pipe_model.specs.Fate.{held}
use Rattle.pipe_model.specs.Got.{carries, gets, got, key_of, message_of}
use Rattle.pipe_model.specs.LateMessage.{AreLateKnown, IsKnown, IsNoneLateOfItself}
use Rattle.pipe_model.specs.Moments.{noted_hosts, received}
use Rattle.pipe_model.specs.NeverLate.{AreOfGraph, is_late}
use Rattle.pipe_model.specs.Order.{WasSent}
use Rattle.pipe_model.specs.PreparedHeld.{IsHeldByAll}
use Rattle.pipe_model.specs.Recalls.{got_recall, recalled_in_time}
use Rattle.pipe_model.specs.Run.{IsHistory, IsStep}
use Rattle.pipe_model.specs.Sender.{sender_calls}
use Rattle.pipe_model.proofs.Promises.{noted_is}
use Rattle.pipe_model.proofs.Recalls.{in_time_got}
use Rattle.pipe_model_net.proofs.Acks.{reliable_fate}
use Rattle.pipe_model_net.proofs.Genuine.{got_sent}
use Rattle.pipe_model_atomic.specs.Present.{IsPresent}
use Rattle.pipe_model_atomic.specs.RecalledInTime.{AreAnswersInTime, IsRecalledInTime}
use Rattle.pipe_model_atomic.specs.Sentences.{Sentences}
use Rattle.pipe_model_atomic.proofs.Recorded.{trusted_is}
use Rattle.pipe_model_atomic.proofs.Passing.{begun_by, not_passed}
use Rattle.pipe_model_atomic.proofs.Bounds.{commit_of, time_bounds}
use Rattle.pipe_model_atomic.proofs.Holds.{sentences_hold}
use Rattle.pipe_model_atomic.proofs.SentBegun.{IsBegunFor, ends_in, sent_begun}
use Rattle.pipe_model_atomic.proofs.Stages.{settled_answered, settled_prepared}
use Rattle.pipe_model_atomic.proofs.Times.{announced_before, void_gives, void_noted}
use Rattle.pipe_model_atomic.proofs.Views.{trusted_before}

-- ---- a late message is below the barrier

not_late_among : (back again : Bool) → is_late (Some (if back then Recalled else if again then Repeat else Held)) ≡ false
not_late_among true again = refl
not_late_among false true = refl
not_late_among false false = refl

not_late_from : (o : Option Ts) (back : Bool) (ms : Messages) (key : Key) → is_late (Some (fate_from o back ms key)) ≡ false
not_late_from None back ms key = not_late_among back (has_key key ms)
not_late_from (Some time) back ms key = by (nat_le time.0 key.ts.0)
  where
    by : (b : Bool) → is_late (Some (if b then Discarded time else fate_among back ms key)) ≡ false
    by true = refl
    by false = not_late_among back (has_key key ms)

late_by : (late : Bool) (barrier : ℕ) (o : Option Ts) (back : Bool) (ms : Messages) (key : Key) → nat_lt key.ts.0 barrier ≡ late
    → is_late (Some (if late then Late (record { 0 = barrier }) else fate_from o back ms key)) ≡ true → key.ts.0 < barrier
late_by true barrier o back ms key is late = grind (arith, nat_tests, is)
late_by false barrier o back ms key is late = absurd (true≢false (sym late ∙ not_late_from o back ms key))

-- the packet that brings a message, and that it is one of the service
message_in : (b : Bool) (q p : Packet) → carries Reliable q.kind ≡ b → (if b then Some q else None) ≡ Some p → (Some q ≡ Some p) × (carries Reliable p.kind ≡ true)
message_in true q p is brings = let same : q ≡ p = cc in (brings, ap (λ (x : Packet). carries Reliable x.kind) (sym same) ∙ is)
message_in false q p is brings = cc

brought : (o : Option Packet) (p : Packet) → message_of Reliable o ≡ Some p → (o ≡ Some p) × (carries Reliable p.kind ≡ true)
brought None p is = cc
brought (Some q) p is = message_in (carries Reliable q.kind) q p refl is

late_below : (graph : Graph) (past : List Record) (r : Record) (host : ℕ) (p : Packet) → IsStep graph past r → is_own graph host r ≡ true
    → got Reliable graph host (own graph host past) r ≡ Some p → is_late r.step.fate ≡ true → p.ts.0 < commit_of graph past host
late_below graph past r host p step mine brings late =
    let o : List Record = own graph host past in
    let barrier : ℕ = commit_of graph past host in
    let from = brought (gets graph host o r) p brings in
    let fate_is = (step.node host mine).fate_is ∙ reliable_fate graph host o r p from.0 from.1 in
    late_by (nat_lt p.ts.0 barrier) barrier (time_of p.src.0 (noted_hosts o)) (got_recall graph host (key_of p) o) (held Reliable graph host o) (key_of p) refl (sym (ap is_late fate_is) ∙ late)

-- ---- a scattering that a correct host has passed is settled: it was held there, or taken back

-- where it is prepared, the host held it
held_at : (graph : Graph) (past : List Record) (host : ℕ) (e : Entry) → Sentences graph past → (b : IsBegunFor graph past host e)
    → is_prepared (sender_calls graph e.key.src.0 (own graph e.key.src.0 past)) b.scattering ≡ true → HasHeld graph host e.key past
held_at graph past host e holds b prepared =
    let src : ℕ = e.key.src.0 in
    let calls : List SenderCall = sender_calls graph src (own graph src past) in
    let by_all : IsHeldByAll graph src past b.scattering =
    All-contains (λ (s : Scattering). is_prepared calls s ≡ true → IsHeldByAll graph src past s) (begun_by graph past src) b.scattering (holds.prepared_held src) b.begun prepared in
    let here : HasHeld graph host (record { ts = b.scattering.ts; src = record { 0 = src } }) past =
    All-contains (λ (d : HostId × List ℕ). HasHeld graph d.0.0 (record { ts = b.scattering.ts; src = record { 0 = src } }) past) b.scattering.dests (record { 0 = host }, e.body) by_all b.listed in
    subst (λ (ts : Ts). HasHeld graph host (record { ts = ts; src = record { 0 = src } }) past) b.stamp here

-- what is not void is so by the timestamp of the scattering as well
same_valid : (graph : Graph) (past : List Record) (host : ℕ) (e : Entry) (b : IsBegunFor graph past host e) → is_void (announced graph past) e.key ≡ false
    → is_void (announced graph past) (key_from e.key.src.0 b.scattering) ≡ false
same_valid graph past host e b valid =
    subst (λ (ts : Ts). is_void (announced graph past) (record { ts = ts; src = record { 0 = e.key.src.0 } }) ≡ false) (sym b.stamp) valid

-- where it is settled as recalled, the host got the recall
back_at : (graph : Graph) (past : List Record) (host : ℕ) (e : Entry) → Sentences graph past → IsPresent graph past host → host < graph.hosts → e.key.src.0 < graph.hosts
    → is_void (announced graph past) e.key ≡ false → (b : IsBegunFor graph past host e)
    → is_settled (sender_calls graph e.key.src.0 (own graph e.key.src.0 past)) b.scattering ≡ true
    → is_recalled (sender_calls graph e.key.src.0 (own graph e.key.src.0 past)) b.scattering ≡ true → got_recall graph host e.key (own graph host past) ≡ true
back_at graph past host e holds present host_in src_in valid b settled recalled =
    let src : ℕ = e.key.src.0 in
    let o : List Record = own graph src past in
    let calls : List SenderCall = sender_calls graph src o in
    let s : Scattering = b.scattering in
    let d : HostId × List ℕ = (record { 0 = host }, e.body) in
    let unnoted : is_noted calls host ≡ false =
    noted_is graph src o host ∙ announced_before host (noted_hosts o) (announced graph past) (holds.knowing.noted_first src) present.trusted in
    let answered : is_recall_acked calls s host ≡ true =
    All-contains (λ (x : HostId × List ℕ). is_noted calls x.0.0 ≡ false → is_recall_acked calls s x.0.0 ≡ true) s.dests d (settled_answered calls s settled recalled) b.listed unnoted in
    let all_in_time : AreAnswersInTime graph past src s =
    All-contains (λ (x : Scattering). is_void (announced graph past) (key_from src x) ≡ false → AreAnswersInTime graph past src x) (begun_by graph past src) s
    (holds.recalls_in_time src src_in) b.begun (same_valid graph past host e b valid) in
    let in_time : recalled_in_time graph host (key_from src s) (own graph host past) ≡ true =
    All-contains (λ (x : HostId × List ℕ). is_recall_acked calls s x.0.0 ≡ true → IsRecalledInTime graph past src s x.0.0) s.dests d all_in_time b.listed answered host_in present.trusted in
    subst (λ (ts : Ts). got_recall graph host (record { ts = ts; src = record { 0 = src } }) (own graph host past) ≡ true) b.stamp
    (in_time_got graph host (key_from src s) (own graph host past) in_time)

passed_known : (graph : Graph) (past : List Record) (host : ℕ) (e : Entry) (settled recalled : Bool) → Sentences graph past → IsPresent graph past host → host < graph.hosts
    → e.key.src.0 < graph.hosts → is_void (announced graph past) e.key ≡ false
    → (b : IsBegunFor graph past host e) → is_settled (sender_calls graph e.key.src.0 (own graph e.key.src.0 past)) b.scattering ≡ settled
    → is_recalled (sender_calls graph e.key.src.0 (own graph e.key.src.0 past)) b.scattering ≡ recalled
    → e.key.ts.0 < commit_of graph past host → IsKnown graph host (own graph host past) e.key
passed_known graph past host e true true holds present host_in src_in valid b is back passed =
    inr (inl (back_at graph past host e holds present host_in src_in valid b is back))
passed_known graph past host e true false holds present host_in src_in valid b is kept passed =
    inl (held_at graph past host e holds b (settled_prepared (sender_calls graph e.key.src.0 (own graph e.key.src.0 past)) b.scattering is kept))
passed_known graph past host e false recalled holds present host_in src_in valid b is back passed =
    let src : ℕ = e.key.src.0 in
    let low : commit_of graph past host ≤ b.scattering.ts.0 =
    All-contains
    (λ (s : Scattering). is_void (announced graph past) (key_from src s) ≡ false → is_settled (sender_calls graph src (own graph src past)) s ≡ false → commit_of graph past host ≤ s.ts.0)
    (begun_by graph past src) b.scattering (not_passed graph past holds.bounding holds.times_promised src host src_in present) b.begun (same_valid graph past host e b valid) is in
    let stamp : b.scattering.ts.0 ≡ e.key.ts.0 = ap (λ (ts : Ts). ts.0) b.stamp in
    absurd (omega (arith, low, stamp, passed))

-- a host that has passed a void message has noted its sender by then
passed_noted : (noted : Bool) (graph : Graph) (past : List Record) (host : ℕ) (key : Key) → IsHistory graph past → Sentences graph past → IsPresent graph past host
    → is_void (announced graph past) key ≡ true → is_announced key.src.0 (noted_hosts (own graph host past)) ≡ noted → key.ts.0 < commit_of graph past host
    → is_void (noted_hosts (own graph host past)) key ≡ true
passed_noted true graph past host key run holds present void noted passed =
    void_noted key (noted_hosts (own graph host past)) (announced graph past) (holds.knowing.noted_first host) noted void
passed_noted false graph past host key run holds present void unnoted passed =
    let at = void_gives key (announced graph past) void in
    let low : commit_of graph past host ≤ at.0.0 = time_bounds graph past run holds.bounding key.src.0 host at.0 at.1 present unnoted in
    absurd (omega (arith, low, at.2, passed))

-- ---- along the run

late_known_by : (void : Bool) (graph : Graph) (past : List Record) (host : ℕ) (e : Entry) → IsHistory graph past → Sentences graph past → IsPresent graph past host → host < graph.hosts
    → e.key.src.0 < graph.hosts → is_void (announced graph past) e.key ≡ void → IsBegunFor graph past host e → e.key.ts.0 < commit_of graph past host
    → IsKnown graph host (own graph host past) e.key
late_known_by true graph past host e run holds present host_in src_in void b passed =
    inr (inr (passed_noted (is_announced e.key.src.0 (noted_hosts (own graph host past))) graph past host e.key run holds present void refl passed))
late_known_by false graph past host e run holds present host_in src_in valid b passed =
    let calls : List SenderCall = sender_calls graph e.key.src.0 (own graph e.key.src.0 past) in
    passed_known graph past host e (is_settled calls b.scattering) (is_recalled calls b.scattering) holds present host_in src_in valid b refl refl passed

late_known_at : (graph : Graph) (past : List Record) (r : Record) (host : ℕ) (p : Packet) → JoinsAllHosts graph → IsHistory graph past → AreOfGraph graph past
    → IsStep graph past r → host < graph.hosts → is_announced host (announced graph past) ≡ false → is_own graph host r ≡ true
    → got Reliable graph host (own graph host past) r ≡ Some p → is_late r.step.fate ≡ true → IsKnown graph host (own graph host past) (key_of p)
late_known_at graph past r host p joined run known step host_in trusted mine brings late =
    let e : Entry = entry_of (key_of p, p.body) in
    let holds : Sentences graph past = sentences_hold graph past joined run in
    let sent : WasSent Reliable host e past = got_sent Reliable graph past r host (received graph host (own graph host past) r) p run step refl brings in
    late_known_by (is_void (announced graph past) e.key) graph past host e run holds
    (record { member = holds.bounding.present_are_members host host_in trusted; trusted = trusted }) host_in
    (ends_in graph Reliable past host e known sent).0 refl (sent_begun graph past host e sent) (late_below graph past r host p step mine brings late)

-- who is correct at the end was not announced before
abbrev IsTrustedStill : Graph → List Record → List Record → Type 0
IsTrustedStill graph end past = (host : ℕ) → IsCorrect graph end host → is_announced host (announced graph past) ≡ false

late_known : (graph : Graph) (end past : List Record) → JoinsAllHosts graph → IsHistory graph past → AreOfGraph graph past → IsTrustedStill graph end past → AreLateKnown graph end past
late_known graph end [] joined run known trusted = tt
late_known graph end (r ∷ past) joined run known trusted =
    let before : AreOfGraph graph past = All-tail (λ (x : Record). IsOfGraph graph x.event) r past known in
    let trusted_then : IsTrustedStill graph end past = λ host correct. trusted_before graph past r host (trusted host correct) in (
      late_known graph end past joined run.0 before trusted_then,
      λ host correct mine p brings late. late_known_at graph past r host p joined run.0 before run.1 correct.host_in (trusted_then host correct) mine brings late,
    )

pub none_late : (graph : Graph) (past : List Record) → JoinsAllHosts graph → IsHistory graph past → AreOfGraph graph past → IsNoneLateOfItself graph past
none_late graph past joined run known = late_known graph past past joined run known (λ host correct. trusted_is graph past host run correct)
