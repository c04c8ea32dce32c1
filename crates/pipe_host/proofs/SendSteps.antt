-- That what a host does with a send is what it owes.
use Rattle.std.proofs.Common.{◌≡◌, ℕ, ◌+◌, ◌<◌, ◌≤◌, nat_le, Bool, true, List, ◌∷◌, length, map, Option, None, Some, refl, sym, subst, ap, ◌∙◌, arith, append-nil, zero-add}
use Rattle.std.proofs.lemmas.Bool.{le-leb}
use Rattle.std.proofs.lemmas.List.Elements.{All-weaker}
use Rattle.pipe_base.specs.declared.message.Service.{Service}
use Rattle.pipe_base.specs.declared.message.Service.TheVariants.{BestEffort, Reliable}
use Rattle.pipe_base.specs.declared.name.HostId.{HostId}
use Rattle.pipe_base.specs.declared.name.LinkId.{LinkId}
use Rattle.pipe_base.specs.declared.name.Ts.{Ts}
use Rattle.pipe_base.specs.declared.packet.Packet.{Packet}
use Rattle.pipe_base.specs.declared.step.Outcome.{Outcome}
use Rattle.pipe_base.specs.declared.step.Outcome.TheVariants.{Ok}
use Rattle.pipe_base.specs.declared.step.Step.{Step}
use Rattle.pipe_base.specs.Clock.{stamp_at}
use Rattle.pipe_graph.specs.Graph.{Graph}
use Rattle.pipe_base.specs.Limits.{most_unsettled}
use Rattle.pipe_base.specs.Packets.{Fields, sent_to}
use Rattle.pipe_base.specs.Promise.{promise_of}
use Rattle.pipe_base.specs.Scattering.{Scattering, SenderCall, IsAboveBegun, begun}
use Rattle.pipe_base.specs.Settled.{unsettled}
use Rattle.pipe_graph.specs.ShortestRoute.{route}
use Rattle.pipe_base.specs.Step.{quiet_step}
use Rattle.pipe_base.specs.Ways.{lost, routed, with_ways}
use Rattle.pipe_model.specs.declared.event.Event.TheVariants.{Send}
use Rattle.pipe_model.specs.declared.record.Record.{Record}
use Rattle.pipe_model.specs.Clock.{next}
use Rattle.pipe_model.specs.Duties.{fields}
use Rattle.pipe_model.specs.Moments.{known_drops, noted_hosts}
use Rattle.pipe_model.specs.OwnOutcome.{clock_outcome, first_failed, is_window_full, own_outcome, send_outcome, where_ok}
use Rattle.pipe_model.specs.Run.{IsNodeStep}
use Rattle.pipe_model.specs.Sender.{sender_calls, with_begun}
use Rattle.pipe_model.proofs.Promises.{begun_below_next}
use Rattle.pipe_relsend.specs.Pending.{Pending}
use Rattle.pipe_relsend.specs.Sending as sending
use Rattle.pipe_relsend.proofs.SendingLaws.{count_left, promise_begun, promise_first, stands_begun}
use Rattle.pipe_host.specs.declared.buffers.Buffers.{Buffers}
use Rattle.pipe_host.specs.declared.host.Host.{Host}
use Rattle.pipe_host.specs.declared.sending.Stamp.{Stamp}
use Rattle.pipe_host.specs.Host.{Stands}
use Rattle.pipe_host.specs.Sending.{IsRefused, IsStamped, begun_by, is_full, promise_with}
use Rattle.pipe_model.specs.Records.{sent}
use Rattle.pipe_host.proofs.HostSteps.{fields_of_host, notes_none}
use Rattle.pipe_host.proofs.RecordLaws.{still_logged}

-- the window of the host is that of its sender
window_is : (service : Service) (calls : List SenderCall) (pending : List Pending) → sending.Stands calls pending → is_full service pending ≡ is_window_full service (unsettled calls)
window_is BestEffort calls pending stands = refl
window_is Reliable calls pending stands = ap (nat_le most_unsettled) (count_left calls pending stands)

-- what is answered to a send is what the host's own records give
outcome_is : (graph : Graph) (host : HostId) (own : List Record) (service : Service) (now : Ts) (dests : List (HostId × List ℕ)) (k : Host) → Stands graph host.0 own k
    → send_outcome (first_failed k.held.reliable.failed dests) (is_full service k.sender) k.clock.top.0 now.0 k.clock.next.0 ≡ own_outcome graph host.0 own (Send host service now dests)
outcome_is graph host own service now dests k stands =
    ap (λ (h : Buffers). send_outcome (first_failed h.reliable.failed dests) (is_full service k.sender) k.clock.top.0 now.0 k.clock.next.0) stands.held_are
    ∙ ap (λ (full : Bool). send_outcome (first_failed (noted_hosts own) dests) full k.clock.top.0 now.0 k.clock.next.0) (window_is service (sender_calls graph host.0 own) k.sender stands.sender_is)
    ∙ ap (λ (n : ℕ). send_outcome (first_failed (noted_hosts own) dests) (is_window_full service (unsettled (sender_calls graph host.0 own))) k.clock.top.0 now.0 n) stands.next_is
    ∙ ap (λ (top : ℕ). send_outcome (first_failed (noted_hosts own) dests) (is_window_full service (unsettled (sender_calls graph host.0 own))) top now.0 (next graph host.0 own)) stands.top_is

accepted : (top now n : ℕ) → stamp_at now n ≤ top → Ok ≡ clock_outcome top now n
accepted top now n fits = let test : nat_le (stamp_at now n) top ≡ true = le-leb (stamp_at now n) top fits in rw test refl

-- the promise after a send
promised : (service : Service) (host : HostId) (now ts : Ts) (dests : List (HostId × List ℕ)) (calls : List SenderCall) (pending : List Pending) → sending.Stands calls pending
    → IsAboveBegun ts.0 calls → 0 < length dests → promise_with service ts.0 pending ≡ promise_of (ts.0 + 1) (with_begun (Send host service now dests) (Some ts) calls)
promised BestEffort host now ts dests calls pending stands above some = promise_first (ts.0 + 1) calls pending stands
promised Reliable host now ts dests calls pending stands above some = promise_begun (ts.0 + 1) calls pending (record { ts = ts; dests = dests }) stands above some

-- the sender after a send
pub begins : (service : Service) (host : HostId) (now ts : Ts) (dests : List (HostId × List ℕ)) (calls : List SenderCall) (pending : List Pending) → sending.Stands calls pending
    → IsAboveBegun ts.0 calls → 0 < length dests → sending.Stands (with_begun (Send host service now dests) (Some ts) calls) (begun_by service ts dests pending)
begins BestEffort host now ts dests calls pending stands above some = stands
begins Reliable host now ts dests calls pending stands above some = stands_begun calls pending (record { ts = ts; dests = dests }) stands above some

-- where no send was stamped, none is begun
pub begins_none : (service : Service) (host : HostId) (now : Ts) (dests : List (HostId × List ℕ)) (calls : List SenderCall) → calls ≡ with_begun (Send host service now dests) None calls
begins_none BestEffort host now dests calls = refl
begins_none Reliable host now dests calls = refl

-- a stamp is above all scatterings that were begun
pub stamp_above_begun : (graph : Graph) (node : ℕ) (own : List Record) (stamp : ℕ) → next graph node own ≤ stamp → IsAboveBegun stamp (sender_calls graph node own)
stamp_above_begun graph node own stamp above =
    All-weaker (λ (s : Scattering). s.ts.0 < next graph node own) (λ (s : Scattering). s.ts.0 < stamp) (λ s below. omega (arith, below, above)) (begun (sender_calls graph node own)) (begun_below_next graph node own)

-- a send that is refused
pub refuses : (graph : Graph) (host : HostId) (own : List Record) (service : Service) (now : Ts) (dests : List (HostId × List ℕ)) (outcome : Outcome) (k : Host) (step : Step)
    → Stands graph host.0 own k → IsRefused k service now dests outcome → step ≡ quiet_step outcome → IsNodeStep graph host.0 own (sent host service now dests step)
refuses graph host own service now dests outcome k step stands refused step_is =
    let r : Record = sent host service now dests (quiet_step outcome) in
    let is : outcome ≡ own_outcome graph host.0 own (Send host service now dests) = refused.outcome_is ∙ outcome_is graph host own service now dests k stands in
    subst (λ (x : Step). IsNodeStep graph host.0 own (sent host service now dests x)) (sym step_is)
    (record {
      outcome_is = is;
      downed_is = refl;
      dropped_is = refl;
      noted_is = notes_none graph host.0 stands.host;
      stamped_is = sym (refused.unstamped (stamp_at now.0 (next graph host.0 own))) ∙ ap {B = Option Ts} (λ (o : Outcome). where_ok o (stamp_at now.0 (next graph host.0 own))) is;
      fate_is = refl;
      logged_is = still_logged graph host.0 own r refl;
      put_is = refl;
      unrouted_is = refl;
      control_is = refl;
    })

-- a send that is stamped
pub sends : (graph : Graph) (host : HostId) (own : List Record) (service : Service) (now : Ts) (dests : List (HostId × List ℕ)) (s : Stamp) (k : Host) (step : Step)
    → Stands graph host.0 own k → 0 < length dests → IsStamped k service now dests s
    → step ≡ with_ways (route graph (known_drops own) host.0) (map (sent_to service host s.ts (record { be = s.ts.0; commit = s.promise.0 })) dests) (record (quiet_step Ok) { stamped = Some s.ts })
    → IsNodeStep graph host.0 own (sent host service now dests step)
sends graph host own service now dests s k step stands some stamped step_is =
    let ts : Ts = s.ts in
    let f : Fields = record { be = ts.0; commit = s.promise.0 } in
    let calls : List SenderCall = sender_calls graph host.0 own in
    let messages : Fields → List Packet = λ g. map (sent_to service host ts g) dests in
    let st : Step = with_ways (route graph (known_drops own) host.0) (messages f) (record (quiet_step Ok) { stamped = Some ts }) in
    let r : Record = sent host service now dests st in
    let stamp_is : ts.0 ≡ stamp_at now.0 (next graph host.0 own) = stamped.stamp_is ∙ ap (stamp_at now.0) stands.next_is in
    let outcome : Ok ≡ own_outcome graph host.0 own (Send host service now dests) =
    accepted k.clock.top.0 now.0 k.clock.next.0 (subst (λ (n : ℕ). n ≤ k.clock.top.0) stamped.stamp_is stamped.within)
    ∙ ap (λ (full : Bool). send_outcome None full k.clock.top.0 now.0 k.clock.next.0) (sym stamped.room)
    ∙ ap (λ (o : Option HostId). send_outcome o (is_full service k.sender) k.clock.top.0 now.0 k.clock.next.0) (sym stamped.none_failed)
    ∙ outcome_is graph host own service now dests k stands in
    let above : next graph host.0 own ≤ ts.0 = omega (arith, stamp_is) in
    let next_is : next graph host.0 (r ∷ own) ≡ ts.0 + 1 = omega (arith, stamp_is) in
    let fields_is : fields graph host.0 own r ≡ f =
    fields_of_host graph host.0 own r ts.0 (ts.0 + 1) (with_begun (Send host service now dests) (Some ts) calls) stands.host refl next_is refl
    ∙ ap {B = Fields} (λ (n : ℕ). record { be = ts.0; commit = n })
    (sym (stamped.promise_is ∙ promised service host now ts dests calls k.sender stands.sender_is (stamp_above_begun graph host.0 own ts.0 above) some)) in
    let drops_now : known_drops (r ∷ own) ≡ known_drops own = append-nil (known_drops own) in
    subst (λ (x : Step). IsNodeStep graph host.0 own (sent host service now dests x)) (sym step_is)
    (record {
      outcome_is = outcome;
      downed_is = refl;
      dropped_is = refl;
      noted_is = notes_none graph host.0 stands.host;
      stamped_is = ap {B = Option Ts} (λ (n : ℕ). Some (record { 0 = n })) stamp_is ∙ ap {B = Option Ts} (λ (o : Outcome). where_ok o (stamp_at now.0 (next graph host.0 own))) outcome;
      fate_is = refl;
      logged_is = still_logged graph host.0 own r refl;
      put_is =
          sym (append-nil (routed (route graph (known_drops (r ∷ own)) host.0) (messages (fields graph host.0 own r)))
          ∙ ap (λ (ls : List LinkId). routed (route graph ls host.0) (messages (fields graph host.0 own r))) drops_now
          ∙ ap (λ (g : Fields). routed (route graph (known_drops own) host.0) (messages g)) fields_is);
      unrouted_is =
          zero-add (lost (route graph (known_drops own) host.0) (messages f))
          ∙ sym (ap (λ (ls : List LinkId). lost (route graph ls host.0) (messages (fields graph host.0 own r))) drops_now
          ∙ ap (λ (g : Fields). lost (route graph (known_drops own) host.0) (messages g)) fields_is);
      control_is = refl;
    })
