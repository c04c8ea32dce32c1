-- No more scatterings of a host are unsettled than the window has: a send that would be one more is refused.
use Rattle.std.proofs.Common.{◌≡◌, ℕ, ◌+◌, ◌*◌, ◌<◌, ◌≤◌, nat_le, not, Bool, true, false, if◌then◌else◌, List, [], ◌∷◌, length, map, filter, Option, None, Some, refl, sym, subst, ap, ◌∙◌, arith}
use Rattle.std.specs.Prelude.{flat_map}
use Rattle.std.specs.List.{All}
use Rattle.std.proofs.lemmas.Bool.Decides.{nat_tests}
use Rattle.std.proofs.lemmas.List.{length-append, length-map}
use Rattle.std.proofs.lemmas.List.Sums.{count_by-le-length, length-filter}
use Rattle.std.proofs.lemmas.List.Elements.{All-nil, All-cons, All-append, All-filter, All-head, All-tail, filter-append}
use Rattle.pipe_base.specs.declared.message.Service.TheVariants.{Reliable}
use Rattle.pipe_base.specs.declared.name.HostId.{HostId}
use Rattle.pipe_base.specs.declared.name.Ts.{Ts}
use Rattle.pipe_base.specs.declared.packet.Packet.{Packet}
use Rattle.pipe_base.specs.Clock.{stamp_at}
use Rattle.pipe_graph.specs.Graph.{Graph}
use Rattle.pipe_base.specs.Limits.{most_receivers, most_unsettled}
use Rattle.pipe_base.specs.Packets.{Fields, prepare_to, recall_to}
use Rattle.pipe_base.specs.Resends.{resends, resends_for}
use Rattle.pipe_base.specs.Scattering.{Scattering, SenderCall, Began, begun}
use Rattle.pipe_base.specs.Settled.{awaits, is_acked, is_recalled, is_settled, unsettled}
use Rattle.pipe_base.proofs.SenderLaws.{settled_stays}
use Rattle.pipe_model.specs.declared.event.Event.{Event}
use Rattle.pipe_model.specs.declared.event.Event.TheVariants.{Send}
use Rattle.pipe_model.specs.declared.record.Record.{Record}
use Rattle.pipe_model.specs.Clock.{next}
use Rattle.pipe_model.specs.Event.{IsOfGraph}
use Rattle.pipe_model.specs.Moments.{noted_hosts}
use Rattle.pipe_model.specs.OwnOutcome.{first_failed, is_window_full, send_outcome, stamped, where_ok}
use Rattle.pipe_model.specs.Run.{IsNodeHistory, IsNodeStep}
use Rattle.pipe_model.specs.Sender.{sender_calls}
use Rattle.pipe_model.proofs.Promises.{begun_after, begun_same, calls_after}

-- ---- a call leaves no more unsettled than there were, but for one that it begins

fewer_by : (before now : Bool) (s : Scattering) (xs ys : List Scattering) → (before ≡ true → now ≡ true) → length ys ≤ length xs
    → length (if not now then s ∷ ys else ys) ≤ length (if not before then s ∷ xs else xs)
fewer_by true true s xs ys more le = le
fewer_by true false s xs ys more le = let no : false ≡ true = more refl in cc
fewer_by false true s xs ys more le = omega (arith, le)
fewer_by false false s xs ys more le = omega (arith, le)

abbrev is_left : List SenderCall → Scattering → Bool
is_left calls s = not (is_settled calls s)

fewer_left : (c : SenderCall) (calls : List SenderCall) (ss : List Scattering) → length (filter (is_left (c ∷ calls)) ss) ≤ length (filter (is_left calls) ss)
fewer_left c calls [] = omega arith
fewer_left c calls (s ∷ ss) =
    fewer_by (is_settled calls s) (is_settled (c ∷ calls) s) s (filter (is_left calls) ss) (filter (is_left (c ∷ calls)) ss) (settled_stays c calls s) (fewer_left c calls ss)

one_at_most : (b : Bool) (s : Scattering) → length (if b then s ∷ [] else []) ≤ 1
one_at_most true s = omega arith
one_at_most false s = omega arith

abbrev AreFew : List SenderCall → Type 0
AreFew calls = length (unsettled calls) ≤ most_unsettled

begun_few : (s : Scattering) (calls : List SenderCall) → length (unsettled calls) < most_unsettled → AreFew (Began s ∷ calls)
begun_few s calls free =
    let left : Scattering → Bool = is_left (Began s ∷ calls) in
    let both : length (unsettled (Began s ∷ calls)) ≡ length (filter left (begun calls)) + length (filter left (s ∷ [])) =
    ap length (filter-append left (begun calls) (s ∷ [])) ∙ length-append (filter left (begun calls)) (filter left (s ∷ [])) in
    omega (arith, both, fewer_left (Began s) calls (begun calls), one_at_most (left s) s, free)

-- a call that begins none leaves few
kept_few : (c : SenderCall) (calls : List SenderCall) → begun (c ∷ calls) ≡ begun calls → AreFew calls → AreFew (c ∷ calls)
kept_few c calls same few =
    let left : length (unsettled (c ∷ calls)) ≡ length (filter (is_left (c ∷ calls)) (begun calls)) = ap (λ (ss : List Scattering). length (filter (is_left (c ∷ calls)) ss)) same in
    omega (arith, left, fewer_left c calls (begun calls), few)

-- ---- a reliable send that is stamped found the window open

open_window : (b : Bool) (o : Option HostId) (top now n stamp : ℕ) (ts : Ts) → where_ok (send_outcome o b top now n) stamp ≡ Some ts → b ≡ false
open_window b (Some failed) top now n stamp ts is = cc
open_window true None top now n stamp ts is = cc
open_window false None top now n stamp ts is = refl

below_full : (n : ℕ) → nat_le most_unsettled n ≡ false → n < most_unsettled
below_full n is = grind (arith, nat_tests, is)

started_few : (graph : Graph) (node : ℕ) (own : List Record) (r : Record) (host : HostId) (now ts : Ts) (dests : List (HostId × List ℕ)) → IsNodeStep graph node own r
    → r.event ≡ Send host Reliable now dests → r.step.stamped ≡ Some ts → length (unsettled (sender_calls graph node own)) < most_unsettled
started_few graph node own r host now ts dests step event stamp =
    let pending : List Scattering = unsettled (sender_calls graph node own) in
    let stamps : stamped graph node own (Send host Reliable now dests) ≡ Some ts =
    sym (ap (λ (e : Event). stamped graph node own e) event) ∙ sym step.stamped_is ∙ stamp in
    below_full (length pending)
    (open_window (is_window_full Reliable pending) (first_failed (noted_hosts own) dests) graph.top now.0 (next graph node own) (stamp_at now.0 (next graph node own)) ts stamps)

-- whatever a node is handed, its window holds
pub unsettled_few : (graph : Graph) (node : ℕ) (own : List Record) → IsNodeHistory graph node own → AreFew (sender_calls graph node own)
unsettled_few graph node [] history = omega arith
unsettled_few graph node (r ∷ own) history =
    calls_after AreFew graph node own r
    (λ host now ts dests event stamp.
    begun_few (record { ts = ts; dests = dests }) (sender_calls graph node own) (started_few graph node own r host now ts dests history.1 event stamp))
    (λ past c none few. kept_few c past (begun_same c past none) few) (unsettled_few graph node own history.0)

-- ---- so a tick puts few messages again

abbrev HasFewDests : Scattering → Type 0
HasFewDests s = length s.dests ≤ most_receivers

-- where all events are of the network, no scattering has too many receivers
pub dests_few : (graph : Graph) (node : ℕ) (own : List Record) → All (λ r. IsOfGraph graph r.event) own → All HasFewDests (begun (sender_calls graph node own))
dests_few graph node [] known = All-nil HasFewDests
dests_few graph node (r ∷ own) known =
    let calls : List SenderCall = sender_calls graph node own in
    let here : IsOfGraph graph r.event = All-head (λ (x : Record). IsOfGraph graph x.event) r own known in
    let before : All HasFewDests (begun calls) = dests_few graph node own (All-tail (λ (x : Record). IsOfGraph graph x.event) r own known) in
    begun_after (λ (ss : List Scattering). All HasFewDests ss) graph node own r
    (λ host now ts dests event stamp.
    let can : IsOfGraph graph (Send host Reliable now dests) = subst (IsOfGraph graph) event here in
    let s : Scattering = record { ts = ts; dests = dests } in
    All-append HasFewDests (begun calls) (s ∷ []) before (All-cons HasFewDests s [] can.receivers.few (All-nil HasFewDests)))
    before

put_few : (to : HostId × List ℕ → Packet) (test : HostId × List ℕ → Bool) (ds : List (HostId × List ℕ)) → length ds ≤ most_receivers → length (map to (filter test ds)) ≤ most_receivers
put_few to test ds few =
    let count : length (map to (filter test ds)) ≡ length (filter test ds) = length-map (filter test ds) to in
    omega (arith, count, length-filter test ds, count_by-le-length test ds, few)

either_few : (b : Bool) (xs ys : List Packet) → length xs ≤ most_receivers → length ys ≤ most_receivers → length (if b then xs else ys) ≤ most_receivers
either_few true xs ys first second = first
either_few false xs ys first second = second

resent_few : (calls : List SenderCall) (src : HostId) (f : Fields) (s : Scattering) → HasFewDests s → length (resends_for calls src f s) ≤ most_receivers
resent_few calls src f s few =
    let waits : HostId × List ℕ → Bool = λ d. awaits calls s d.0.0 in
    let open_to : HostId × List ℕ → Bool = λ d. not (is_acked calls s.ts.0 d.0.0) in
    either_few (is_recalled calls s) (map (recall_to src s.ts f) (filter waits s.dests)) (map (prepare_to src s.ts f) (filter open_to s.dests))
    (put_few (recall_to src s.ts f) waits s.dests few) (put_few (prepare_to src s.ts f) open_to s.dests few)

each_few : (calls : List SenderCall) (src : HostId) (f : Fields) (ss : List Scattering) → All HasFewDests ss
    → length (flat_map (resends_for calls src f) ss) ≤ length ss * most_receivers
each_few calls src f [] all = omega arith
each_few calls src f (s ∷ ss) all =
    let rest : length (flat_map (resends_for calls src f) ss) ≤ length ss * most_receivers = each_few calls src f ss (All-tail HasFewDests s ss all) in
    let here : length (resends_for calls src f s) ≤ most_receivers = resent_few calls src f s (All-head HasFewDests s ss all) in
    omega (arith, length-append (resends_for calls src f s) (flat_map (resends_for calls src f) ss), here, rest)

pub resends_few : (graph : Graph) (node : ℕ) (own : List Record) (src : HostId) (f : Fields) → IsNodeHistory graph node own → All (λ r. IsOfGraph graph r.event) own
    → length (resends (sender_calls graph node own) src f) ≤ most_unsettled * most_receivers
resends_few graph node own src f history known =
    let calls : List SenderCall = sender_calls graph node own in
    let all : All HasFewDests (unsettled calls) = All-filter (is_left calls) HasFewDests (begun calls) (dests_few graph node own known) in
    omega (arith, each_few calls src f (unsettled calls) all, unsettled_few graph node own history)
