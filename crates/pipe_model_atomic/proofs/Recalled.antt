-- Recalls are in time: a scattering is unsettled until the last answer to its recall comes, so until then no barrier was above its
-- timestamp, and the receiver that answers got the recall before.
use Rattle.std.proofs.Common.{◌≡◌, ◌⊎◌, ℕ, ◌<◌, ◌≤◌, ◌==◌, ◌&&◌, ◌||◌, not, if◌then◌else◌, Bool, true, false, List, [], ◌∷◌, get_or, length, Option, None, Some, refl, inl, inr, sym, subst, ◌∙◌, eqb-true, true≢false, arith}
use Rattle.std.specs.List.{All, list_any}
use Rattle.std.proofs.lemmas.Bool.{and_parts, or_cases, or_left}
use Rattle.std.proofs.lemmas.List.Elements.{All-append, All-cons, All-head, All-nil, All-tail}
use Rattle.std.proofs.lemmas.List.Folds.{list_any-append, list_any_at}
use Rattle.pipe_base.specs.declared.control.Announced.{Announced}
use Rattle.pipe_base.specs.declared.message.Key.{Key}
use Rattle.pipe_base.specs.declared.message.Service.TheVariants.{Reliable}
use Rattle.pipe_base.specs.declared.name.HostId.{HostId}
use Rattle.pipe_base.specs.declared.name.Ts.{Ts}
use Rattle.pipe_base.specs.declared.packet.Packet.{Packet}
use Rattle.pipe_base.specs.Failed.{is_void}
use Rattle.pipe_graph.specs.Graph.{Graph}
use Rattle.pipe_base.specs.Scattering.{Scattering, SenderCall, Acked, Began, Noted, RecallAcked, begun, is_begun}
use Rattle.pipe_base.specs.Settled.{awaits, has_failed, is_noted, is_prepared, is_recall_acked, is_recalled, is_settled}
use Rattle.pipe_model.specs.declared.event.Event.{Event}
use Rattle.pipe_model.specs.declared.event.Event.TheVariants.{Send}
use Rattle.pipe_model.specs.declared.record.Record.{Record}
use Rattle.pipe_model.specs.Acting.{is_own, own}
use Rattle.pipe_model.specs.AllOrNone.{key_from}
use Rattle.pipe_model.specs.Clock.{next}
use Rattle.pipe_model.specs.Controller.{announced}
use Rattle.pipe_model.specs.Got.{gets}
use Rattle.pipe_model.specs.Moments.{moments_of, noted_hosts, received}
use Rattle.pipe_model.specs.Recalled.{IsRecallAckTrue}
use Rattle.pipe_model.specs.Recalls.{got_recall, recalled_in_time}
use Rattle.pipe_model.specs.Run.{IsHistory, IsNodeStep}
use Rattle.pipe_model.specs.Sender.{accepted_stamp, is_ack, is_recall_ack, sender_calls, with_answer, with_begun, with_noted}
use Rattle.pipe_model.specs.Waiting.{waiting_on}
use Rattle.pipe_model.proofs.Own.{own_more, own_same}
use Rattle.pipe_model.proofs.Promises.{begun_after, begun_below_next, noted_is}
use Rattle.pipe_model.proofs.Recalls.{got_in_time, in_time_stays}
use Rattle.pipe_model.proofs.Stamps.{stamp_above}
use Rattle.pipe_model_net.proofs.Packets.{at_place, took_waited}
use Rattle.pipe_model_net.proofs.Prepared.{is_got}
use Rattle.pipe_model_net.proofs.RecallAcks.{recall_acks_true}
use Rattle.pipe_model_net.proofs.Sent.{received_took}
use Rattle.pipe_model_atomic.specs.NotedFirst.{AreNotedFirst}
use Rattle.pipe_model_atomic.specs.RecalledInTime.{AreRecallsInTime, IsRecalledInTime}
use Rattle.pipe_model_atomic.specs.Sentences.{Bounding}
use Rattle.pipe_model_atomic.specs.TimesPromised.{AreTimesPromised}
use Rattle.pipe_model_atomic.proofs.Bounds.{commit_of}
use Rattle.pipe_model_atomic.proofs.Passing.{begun_by, not_passed}
use Rattle.pipe_model_atomic.proofs.Times.{announced_before, not_void_first}
use Rattle.pipe_model_atomic.proofs.Views.{announced_more, trusted_before}

-- ---- what is recalled was begun

recalled_begun : (calls : List SenderCall) (s : Scattering) → is_recalled calls s ≡ true → is_begun calls s.ts.0 ≡ true
recalled_begun [] s is = absurd (true≢false (sym is))
recalled_begun (Began t ∷ calls) s is =
    list_any-append (λ (x : Scattering). x.ts.0 == s.ts.0) (begun calls) (t ∷ []) ∙ or_left (is_begun calls s.ts.0) (list_any (λ (x : Scattering). x.ts.0 == s.ts.0) (t ∷ [])) (recalled_begun calls s is)
recalled_begun (Noted failed ∷ calls) s is =
    elim (or_cases (is_recalled calls s) (is_begun calls s.ts.0 && has_failed (Noted failed ∷ calls) s) is) [
      | inl before ↦ recalled_begun calls s before
      | inr now ↦ (and_parts (is_begun calls s.ts.0) (has_failed (Noted failed ∷ calls) s) now).0
    ]
recalled_begun (Acked ts host ∷ calls) s is = recalled_begun calls s is
recalled_begun (RecallAcked ts host ∷ calls) s is = recalled_begun calls s is

answered_begun : (calls : List SenderCall) (s : Scattering) (host : ℕ) → is_recall_acked calls s host ≡ true → is_begun calls s.ts.0 ≡ true
answered_begun [] s host is = absurd (true≢false (sym is))
answered_begun (Began t ∷ calls) s host is =
    list_any-append (λ (x : Scattering). x.ts.0 == s.ts.0) (begun calls) (t ∷ [])
    ∙ or_left (is_begun calls s.ts.0) (list_any (λ (x : Scattering). x.ts.0 == s.ts.0) (t ∷ [])) (answered_begun calls s host is)
answered_begun (RecallAcked ts h ∷ calls) s host is =
    elim (or_cases (((s.ts.0 == ts) && (host == h)) && is_recalled calls s) (is_recall_acked calls s host) is) [
      | inl now ↦ recalled_begun calls s (and_parts ((s.ts.0 == ts) && (host == h)) (is_recalled calls s) now).1
      | inr before ↦ answered_begun calls s host before
    ]
answered_begun (Noted failed ∷ calls) s host is = answered_begun calls s host is
answered_begun (Acked ts h ∷ calls) s host is = answered_begun calls s host is

-- no scattering has a timestamp that is above all that were begun
none_begun : (ts : ℕ) (ss : List Scattering) → All (λ s. s.ts.0 < ts) ss → list_any (λ s. s.ts.0 == ts) ss ≡ true → ⊥
none_begun ts [] below is = true≢false (sym is)
none_begun ts (s ∷ ss) below is =
    elim (or_cases (s.ts.0 == ts) (list_any (λ (x : Scattering). x.ts.0 == ts) ss) is) [
      | inl same ↦
          let low : s.ts.0 < ts = All-head (λ (x : Scattering). x.ts.0 < ts) s ss below in
          let equal : s.ts.0 ≡ ts = eqb-true s.ts.0 ts same in omega (arith, low, equal)
      | inr later ↦ none_begun ts ss (All-tail (λ (x : Scattering). x.ts.0 < ts) s ss below) later
    ]

-- ---- an answer that counts in a record

-- what was brought answers the recall of a scattering, for a host
record IsAnswer (o : Option Packet) (calls : List SenderCall) (s : Scattering) (host : ℕ) : Type 0 where
  packet : Packet
  brought : o ≡ Some packet
  kind : is_recall_ack packet.kind ≡ true
  stamp : s.ts.0 ≡ packet.ts.0
  sender : host ≡ packet.src.0
  recalled : is_recalled calls s ≡ true

answer_by : (ack back : Bool) (p : Packet) (calls : List SenderCall) (s : Scattering) (host : ℕ) → is_recall_ack p.kind ≡ back
    → is_recall_acked (if ack then Acked p.ts.0 p.src.0 ∷ calls else if back then RecallAcked p.ts.0 p.src.0 ∷ calls else calls) s host ≡ true
    → (is_recall_acked calls s host ≡ true) ⊎ IsAnswer (Some p) calls s host
answer_by true back p calls s host kind is = inl is
answer_by false true p calls s host kind is =
    elim (or_cases (((s.ts.0 == p.ts.0) && (host == p.src.0)) && is_recalled calls s) (is_recall_acked calls s host) is) [
      | inl now ↦
          let parts = and_parts ((s.ts.0 == p.ts.0) && (host == p.src.0)) (is_recalled calls s) now in
          let both = and_parts (s.ts.0 == p.ts.0) (host == p.src.0) parts.0 in
          inr (record {
            packet = p;
            brought = refl;
            kind = kind;
            stamp = eqb-true s.ts.0 p.ts.0 both.0;
            sender = eqb-true host p.src.0 both.1;
            recalled = parts.1;
          })
      | inr before ↦ inl before
    ]
answer_by false false p calls s host kind is = inl is

answer_new : (o : Option Packet) (calls : List SenderCall) (s : Scattering) (host : ℕ) → is_recall_acked (with_answer o calls) s host ≡ true
    → (is_recall_acked calls s host ≡ true) ⊎ IsAnswer o calls s host
answer_new None calls s host is = inl is
answer_new (Some p) calls s host is = answer_by (is_ack p.kind) (is_recall_ack p.kind) p calls s host refl is

begun_answers : (event : Event) (stamp : Option Ts) (calls : List SenderCall) (s : Scattering) (host : ℕ) → is_recall_acked (with_begun event stamp calls) s host ≡ true
    → is_recall_acked calls s host ≡ true
begun_answers (Send src Reliable now dests) (Some ts) calls s host is = is
begun_answers _ _ calls s host is = is

begun_recalls : (event : Event) (stamp : Option Ts) (calls : List SenderCall) (s : Scattering) → is_recalled (with_begun event stamp calls) s ≡ true → is_recalled calls s ≡ true
begun_recalls (Send src Reliable now dests) (Some ts) calls s is = is
begun_recalls _ _ calls s is = is

noted_answers : (noted new : List Announced) (calls : List SenderCall) (s : Scattering) (host : ℕ) → is_recall_acked (with_noted noted new calls) s host ≡ true
    → is_recall_acked calls s host ≡ true
noted_answers noted [] calls s host is = is
noted_answers noted (a ∷ more) calls s host is = is

-- what counts after a record counted before it, or the record brought it
answered_now : (graph : Graph) (node : ℕ) (own : List Record) (r : Record) (s : Scattering) (host : ℕ) → is_recall_acked (sender_calls graph node (r ∷ own)) s host ≡ true
    → (is_recall_acked (sender_calls graph node own) s host ≡ true) ⊎ IsAnswer (gets graph node own r) (sender_calls graph node own) s host
answered_now graph node own r s host is =
    let calls : List SenderCall = sender_calls graph node own in
    let first : List SenderCall = with_begun r.event (accepted_stamp r.step) calls in
    elim (answer_new (gets graph node own r) first s host (noted_answers (noted_hosts (r ∷ own)) r.step.noted (with_answer (gets graph node own r) first) s host is)) [
      | inl before ↦ inl (begun_answers r.event (accepted_stamp r.step) calls s host before)
      | inr now ↦ inr (record {
        packet = now.packet;
        brought = now.brought;
        kind = now.kind;
        stamp = now.stamp;
        sender = now.sender;
        recalled = begun_recalls r.event (accepted_stamp r.step) calls s now.recalled;
      })
    ]

-- so nothing is answered for a scattering that is begun now
fresh_unanswered : (graph : Graph) (node : ℕ) (own : List Record) (r : Record) (s : Scattering) (host : ℕ) → IsNodeStep graph node own r → r.step.stamped ≡ Some s.ts
    → is_recall_acked (sender_calls graph node (r ∷ own)) s host ≡ true → ⊥
fresh_unanswered graph node own r s host step stamp is =
    let calls : List SenderCall = sender_calls graph node own in
    let above : next graph node own ≤ s.ts.0 = stamp_above graph node own r.event s.ts (sym step.stamped_is ∙ stamp) in
    let below : All (λ (x : Scattering). x.ts.0 < s.ts.0) (begun calls) = λ k d lt. let low = begun_below_next graph node own k d lt in omega (arith, low, above) in
    elim (answered_now graph node own r s host is) [
      | inl before ↦ none_begun s.ts.0 (begun calls) below (answered_begun calls s host before)
      | inr now ↦ none_begun s.ts.0 (begun calls) below (recalled_begun calls s now.recalled)
    ]

-- ---- who answers got the recall before

answer_got : (graph : Graph) (past : List Record) (r : Record) (sender host : ℕ) (s : Scattering) → IsHistory graph (r ∷ past)
    → IsAnswer (gets graph sender (own graph sender past) r) (sender_calls graph sender (own graph sender past)) s host
    → got_recall graph host (key_from sender s) (own graph host past) ≡ true
answer_got graph past r sender host s run answer =
    let o : List Record = own graph sender past in
    let p : Packet = answer.packet in
    let w = is_got graph sender (received graph sender o r) p answer.brought in
    let took = received_took (moments_of graph sender o) r.event r.took (w.link, p) w.received_is in
    let waited = took_waited graph past r took.0 p run.1 took.1 in
    let holds : IsRecallAckTrue graph past p =
    at_place (IsRecallAckTrue graph past) (waiting_on waited.link past) waited.place p ((recall_acks_true graph past run.0).waiting waited.link) waited.waited in
    let Got : ℕ → ℕ → ℕ → Type 0 = λ ts src dst. got_recall graph src (record { ts = record { 0 = ts }; src = record { 0 = dst } }) (own graph src past) ≡ true in
    subst (λ (n : ℕ). Got n host sender) (sym answer.stamp)
    (subst (λ (n : ℕ). Got p.ts.0 n sender) (sym answer.sender)
    (subst (λ (n : ℕ). Got p.ts.0 p.src.0 n) w.dst (holds answer.kind)))

-- ---- until then the scattering was unsettled

awaited : (noted answered : Bool) → noted ≡ false → answered ≡ false → not (noted || answered) ≡ true
awaited true answered h k = absurd (true≢false h)
awaited false true h k = absurd (true≢false k)
awaited false false h k = refl

unsettled_while : (recalled waits prepared : Bool) → recalled ≡ true → waits ≡ true → (if recalled then not waits else prepared) ≡ false
unsettled_while true true prepared h k = refl
unsettled_while true false prepared h k = absurd (true≢false (sym k))
unsettled_while false waits prepared h k = absurd (true≢false (sym h))

still_unsettled : (calls : List SenderCall) (s : Scattering) (j : ℕ) (e : HostId × List ℕ) → j < length s.dests → is_recalled calls s ≡ true
    → is_noted calls (get_or s.dests j e).0.0 ≡ false → is_recall_acked calls s (get_or s.dests j e).0.0 ≡ false → is_settled calls s ≡ false
still_unsettled calls s j e at recalled unnoted unanswered =
    let host : ℕ = (get_or s.dests j e).0.0 in
    let waits : list_any (λ (d : HostId × List ℕ). awaits calls s d.0.0) s.dests ≡ true =
    list_any_at (λ (d : HostId × List ℕ). awaits calls s d.0.0) s.dests j e at (awaited (is_noted calls host) (is_recall_acked calls s host) unnoted unanswered) in
    unsettled_while (is_recalled calls s) (list_any (λ (d : HostId × List ℕ). awaits calls s d.0.0) s.dests) (is_prepared calls s) recalled waits

-- ---- what is got in time stays so

later_by : (b : Bool) (graph : Graph) (past : List Record) (r : Record) (host : ℕ) (key : Key) → is_own graph host r ≡ b → recalled_in_time graph host key (own graph host past) ≡ true
    → recalled_in_time graph host key (own graph host (r ∷ past)) ≡ true
later_by true graph past r host key mine is =
    subst (λ (o : List Record). recalled_in_time graph host key o ≡ true) (sym (own_more graph host r past mine)) (in_time_stays graph host key (own graph host past) r is)
later_by false graph past r host key other is =
    subst (λ (o : List Record). recalled_in_time graph host key o ≡ true) (sym (own_same graph host r past other)) is

in_time_later : (graph : Graph) (past : List Record) (r : Record) (sender : ℕ) (s : Scattering) (host : ℕ) → IsRecalledInTime graph past sender s host
    → IsRecalledInTime graph (r ∷ past) sender s host
in_time_later graph past r sender s host holds host_in trusted =
    later_by (is_own graph host r) graph past r host (key_from sender s) refl (holds host_in (trusted_before graph past r host trusted))

valid_before : (graph : Graph) (past : List Record) (r : Record) (key : Key) → is_void (announced graph (r ∷ past)) key ≡ false → is_void (announced graph past) key ≡ false
valid_before graph past r key valid = not_void_first key (announced graph past) (announced graph (r ∷ past)) (announced_more graph past r) valid

-- ---- a record of the sender

-- what holds before a record
record Holding (graph : Graph) (past : List Record) : Type 0 where
  bounding : Bounding graph past
  times : AreTimesPromised graph past
  first : AreNotedFirst graph past
  before : AreRecallsInTime graph past

-- the receiver of a scattering that was begun before, where its answer comes now
first_answer : (graph : Graph) (past : List Record) (r : Record) (sender k j : ℕ) (d : Scattering) (e : HostId × List ℕ) → IsHistory graph (r ∷ past) → Holding graph past
    → sender < graph.hosts → k < length (begun_by graph past sender) → j < length (get_or (begun_by graph past sender) k d).dests
    → is_void (announced graph past) (key_from sender (get_or (begun_by graph past sender) k d)) ≡ false
    → IsAnswer (gets graph sender (own graph sender past) r) (sender_calls graph sender (own graph sender past)) (get_or (begun_by graph past sender) k d) (get_or (get_or (begun_by graph past sender) k d).dests j e).0.0
    → is_recall_acked (sender_calls graph sender (own graph sender past)) (get_or (begun_by graph past sender) k d) (get_or (get_or (begun_by graph past sender) k d).dests j e).0.0 ≡ false
    → IsRecalledInTime graph past sender (get_or (begun_by graph past sender) k d) (get_or (get_or (begun_by graph past sender) k d).dests j e).0.0
first_answer graph past r sender k j d e run holds sender_in lt at valid answer unanswered host_in trusted =
    let o : List Record = own graph sender past in
    let calls : List SenderCall = sender_calls graph sender o in
    let s : Scattering = get_or (begun_by graph past sender) k d in
    let host : ℕ = (get_or s.dests j e).0.0 in
    let unnoted : is_noted calls host ≡ false = noted_is graph sender o host ∙ announced_before host (noted_hosts o) (announced graph past) (holds.first sender) trusted in
    let open_still : is_settled calls s ≡ false = still_unsettled calls s j e at answer.recalled unnoted unanswered in
    let low : commit_of graph past host ≤ s.ts.0 =
    not_passed graph past holds.bounding holds.times sender host sender_in
    (record { member = holds.bounding.present_are_members host host_in trusted; trusted = trusted }) k d lt valid open_still in
    got_in_time graph host (key_from sender s) (own graph host past) (answer_got graph past r sender host s run answer) low

answer_in_time : (answered : Bool) (graph : Graph) (past : List Record) (r : Record) (sender k j : ℕ) (d : Scattering) (e : HostId × List ℕ) → IsHistory graph (r ∷ past) → Holding graph past
    → sender < graph.hosts → k < length (begun_by graph past sender) → j < length (get_or (begun_by graph past sender) k d).dests
    → is_void (announced graph past) (key_from sender (get_or (begun_by graph past sender) k d)) ≡ false
    → is_recall_acked (sender_calls graph sender (own graph sender past)) (get_or (begun_by graph past sender) k d) (get_or (get_or (begun_by graph past sender) k d).dests j e).0.0 ≡ answered
    → is_recall_acked (sender_calls graph sender (r ∷ own graph sender past)) (get_or (begun_by graph past sender) k d) (get_or (get_or (begun_by graph past sender) k d).dests j e).0.0 ≡ true
    → IsRecalledInTime graph past sender (get_or (begun_by graph past sender) k d) (get_or (get_or (begun_by graph past sender) k d).dests j e).0.0
answer_in_time true graph past r sender k j d e run holds sender_in lt at valid was is = holds.before sender sender_in k d lt valid j e at was
answer_in_time false graph past r sender k j d e run holds sender_in lt at valid wasnt is =
    elim (answered_now graph sender (own graph sender past) r (get_or (begun_by graph past sender) k d) (get_or (get_or (begun_by graph past sender) k d).dests j e).0.0 is) [
      | inl was ↦ absurd (true≢false (sym was ∙ wasnt))
      | inr now ↦ first_answer graph past r sender k j d e run holds sender_in lt at valid now wasnt
    ]

-- by the calls of a sender, each receiver that has answered the recall got it in time
abbrev InTimeBy : Graph → List Record → ℕ → List SenderCall → Scattering → Type 0
InTimeBy graph past sender calls s =
    is_void (announced graph past) (key_from sender s) ≡ false → All (λ d. is_recall_acked calls s d.0.0 ≡ true → IsRecalledInTime graph past sender s d.0.0) s.dests

sender_keeps : (graph : Graph) (past : List Record) (r : Record) (sender : ℕ) → IsHistory graph (r ∷ past) → Holding graph past → sender < graph.hosts → is_own graph sender r ≡ true
    → All (InTimeBy graph (r ∷ past) sender (sender_calls graph sender (r ∷ own graph sender past))) (begun (sender_calls graph sender (r ∷ own graph sender past)))
sender_keeps graph past r sender run holds sender_in mine =
    let o : List Record = own graph sender past in
    let calls : List SenderCall = sender_calls graph sender o in
    let P : Scattering → Type 0 = InTimeBy graph (r ∷ past) sender (sender_calls graph sender (r ∷ o)) in
    let old : All P (begun calls) = λ k d lt valid j e at is.
    in_time_later graph past r sender (get_or (begun_by graph past sender) k d) (get_or (get_or (begun_by graph past sender) k d).dests j e).0.0
    (answer_in_time (is_recall_acked calls (get_or (begun_by graph past sender) k d) (get_or (get_or (begun_by graph past sender) k d).dests j e).0.0) graph past r sender k j d e run holds sender_in lt at
    (valid_before graph past r (key_from sender (get_or (begun_by graph past sender) k d)) valid) refl is) in
    begun_after (λ (ss : List Scattering). All P ss) graph sender o r
    (λ host now ts dests event stamp.
    let s : Scattering = record { ts = ts; dests = dests } in
    All-append P (begun calls) (s ∷ []) old
    (All-cons P s [] (λ valid j e at is. absurd (fresh_unanswered graph sender o r s (get_or dests j e).0.0 (run.1.node sender mine) stamp is)) (All-nil P)))
    old

keeps_by : (b : Bool) (graph : Graph) (past : List Record) (r : Record) (sender : ℕ) → IsHistory graph (r ∷ past) → Holding graph past → sender < graph.hosts → is_own graph sender r ≡ b
    → All (InTimeBy graph (r ∷ past) sender (sender_calls graph sender (own graph sender (r ∷ past)))) (begun (sender_calls graph sender (own graph sender (r ∷ past))))
keeps_by true graph past r sender run holds sender_in mine =
    subst (λ (o : List Record). All (InTimeBy graph (r ∷ past) sender (sender_calls graph sender o)) (begun (sender_calls graph sender o))) (sym (own_more graph sender r past mine))
    (sender_keeps graph past r sender run holds sender_in mine)
keeps_by false graph past r sender run holds sender_in other =
    subst (λ (o : List Record). All (InTimeBy graph (r ∷ past) sender (sender_calls graph sender o)) (begun (sender_calls graph sender o))) (sym (own_same graph sender r past other))
    (λ k d lt valid j e at is.
    in_time_later graph past r sender (get_or (begun_by graph past sender) k d) (get_or (get_or (begun_by graph past sender) k d).dests j e).0.0
    (holds.before sender sender_in k d lt (valid_before graph past r (key_from sender (get_or (begun_by graph past sender) k d)) valid) j e at is))

pub keeps_recalls_in_time : (graph : Graph) (past : List Record) (r : Record) → IsHistory graph (r ∷ past) → Bounding graph past → AreTimesPromised graph past → AreNotedFirst graph past
    → AreRecallsInTime graph past → AreRecallsInTime graph (r ∷ past)
keeps_recalls_in_time graph past r run bounding times first before sender sender_in =
    keeps_by (is_own graph sender r) graph past r sender run (record { bounding = bounding; times = times; first = first; before = before }) sender_in refl
