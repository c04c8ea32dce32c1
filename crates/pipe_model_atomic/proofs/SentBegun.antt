-- A reliable message that was sent belongs to a scattering that its sender began.
use Rattle.std.proofs.Common.{◌≡◌, ℕ, ◌<◌, not, if◌then◌else◌, inl, inr, Bool, true, false, List, [], ◌∷◌, ◌++◌, Option, None, Some, refl, sym, subst, ap, ◌∙◌, eq-eqb}
use Rattle.std.specs.List.{Contains}
use Rattle.std.proofs.lemmas.Bool.{and_from}
use Rattle.std.proofs.lemmas.List.Elements.{All-contains, All-contains_itself, All-head, All-tail, Contains-append_left, Contains-append_right}
use Rattle.pipe_base.specs.declared.control.Announced.{Announced}
use Rattle.pipe_base.specs.declared.message.Entry.{Entry}
use Rattle.pipe_base.specs.declared.message.Service.{Service}
use Rattle.pipe_base.specs.declared.message.Service.TheVariants.{Reliable}
use Rattle.pipe_base.specs.declared.name.HostId.{HostId}
use Rattle.pipe_base.specs.declared.name.Ts.{Ts}
use Rattle.pipe_base.specs.declared.packet.Packet.{Packet}
use Rattle.pipe_base.specs.declared.step.Outcome.{Outcome}
use Rattle.pipe_base.specs.declared.step.Outcome.TheVariants.{Ok}
use Rattle.pipe_graph.specs.Graph.{Graph}
use Rattle.pipe_base.specs.Scattering.{Scattering, SenderCall, Acked, Began, RecallAcked, begun}
use Rattle.pipe_model.specs.declared.event.Event.{Event}
use Rattle.pipe_model.specs.declared.event.Event.TheVariants.{Send}
use Rattle.pipe_model.specs.declared.record.Record.{Record}
use Rattle.pipe_model.specs.Acting.{acts, is_idle, is_own, own}
use Rattle.pipe_model.specs.Event.{IsOfGraph}
use Rattle.pipe_model.specs.Got.{gets}
use Rattle.pipe_model.specs.Moments.{noted_hosts}
use Rattle.pipe_model.specs.NeverLate.{AreOfGraph}
use Rattle.pipe_model.specs.Order.{IsSendTo, WasSent}
use Rattle.pipe_model.specs.Sender.{accepted_stamp, is_ack, is_recall_ack, sender_calls, where_accepted, with_answer, with_begun, with_noted}
use Rattle.pipe_model.proofs.Own.{own_more, own_same}
use Rattle.pipe_model.proofs.Promises.{begun_after}
use Rattle.pipe_model_atomic.proofs.Passing.{begun_by}

-- the sender of the entry began a scattering with its timestamp, which lists the host with its body
pub record IsBegunFor (graph : Graph) (past : List Record) (host : ℕ) (e : Entry) : Type 0 where
  pub scattering : Scattering
  pub begun : Contains (begun_by graph past e.key.src.0) scattering
  pub stamp : scattering.ts ≡ e.key.ts
  pub listed : Contains scattering.dests (record { 0 = host }, e.body)

-- ---- what was begun stays begun

stays_by : (b : Bool) (graph : Graph) (past : List Record) (r : Record) (n : ℕ) (s : Scattering) → is_own graph n r ≡ b → Contains (begun_by graph past n) s
    → Contains (begun_by graph (r ∷ past) n) s
stays_by true graph past r n s mine has =
    subst (λ (o : List Record). Contains (begun (sender_calls graph n o)) s) (sym (own_more graph n r past mine))
    (begun_after (λ (ss : List Scattering). Contains ss s) graph n (own graph n past) r
    (λ host now ts dests event stamp. Contains-append_left (begun_by graph past n) (record { ts = ts; dests = dests } ∷ []) s has) has)
stays_by false graph past r n s other has =
    subst (λ (o : List Record). Contains (begun (sender_calls graph n o)) s) (sym (own_same graph n r past other)) has

begun_stays : (graph : Graph) (past : List Record) (r : Record) (host : ℕ) (e : Entry) → IsBegunFor graph past host e → IsBegunFor graph (r ∷ past) host e
begun_stays graph past r host e has = record {
  scattering = has.scattering;
  begun = stays_by (is_own graph e.key.src.0 r) graph past r e.key.src.0 has.scattering refl has.begun;
  stamp = has.stamp;
  listed = has.listed;
}

-- ---- what a send begins

answer_begins : (ack back : Bool) (ts host : ℕ) (calls : List SenderCall)
    → begun (if ack then Acked ts host ∷ calls else if back then RecallAcked ts host ∷ calls else calls) ≡ begun calls
answer_begins true back ts host calls = refl
answer_begins false true ts host calls = refl
answer_begins false false ts host calls = refl

begun_answered : (o : Option Packet) (calls : List SenderCall) → begun (with_answer o calls) ≡ begun calls
begun_answered None calls = refl
begun_answered (Some p) calls = answer_begins (is_ack p.kind) (is_recall_ack p.kind) p.ts.0 p.src.0 calls

begun_noted : (noted new : List Announced) (calls : List SenderCall) → begun (with_noted noted new calls) ≡ begun calls
begun_noted noted [] calls = refl
begun_noted noted (a ∷ more) calls = refl

sends_own : (graph : Graph) (r : Record) (src : HostId) (service : Service) (now : Ts) (dests : List (HostId × List ℕ)) → r.event ≡ Send src service now dests
    → is_idle r.step.outcome ≡ false → is_own graph src.0 r ≡ true
sends_own graph r src service now dests event active =
    and_from (acts graph src.0 r.event r.took) (not (is_idle r.step.outcome))
    (ap (λ (e : Event). acts graph src.0 e r.took) event ∙ eq-eqb src.0 src.0 refl) (ap not active)

send_begins : (graph : Graph) (past : List Record) (r : Record) (src : HostId) (now ts : Ts) (dests : List (HostId × List ℕ)) → r.event ≡ Send src Reliable now dests
    → accepted_stamp r.step ≡ Some ts → is_own graph src.0 r ≡ true → Contains (begun_by graph (r ∷ past) src.0) (record { ts = ts; dests = dests })
send_begins graph past r src now ts dests event stamp mine =
    let o : List Record = own graph src.0 past in
    let s : Scattering = record { ts = ts; dests = dests } in
    let calls : List SenderCall = sender_calls graph src.0 o in
    let now_begun : with_begun r.event (accepted_stamp r.step) calls ≡ Began s ∷ calls =
    ap (λ (e : Event). with_begun e (accepted_stamp r.step) calls) event ∙ ap (λ (x : Option Ts). with_begun (Send src Reliable now dests) x calls) stamp in
    let all : begun (sender_calls graph src.0 (r ∷ o)) ≡ begun calls ++ s ∷ [] =
    begun_noted (noted_hosts (r ∷ o)) r.step.noted (with_answer (gets graph src.0 o r) (with_begun r.event (accepted_stamp r.step) calls))
    ∙ begun_answered (gets graph src.0 o r) (with_begun r.event (accepted_stamp r.step) calls) ∙ ap begun now_begun in
    subst (λ (x : List Record). Contains (begun (sender_calls graph src.0 x)) s) (sym (own_more graph src.0 r past mine))
    (subst (λ (ss : List Scattering). Contains ss s) (sym all) (Contains-append_right (begun calls) (s ∷ []) s (All-head (Contains (s ∷ [])) s [] (All-contains_itself (s ∷ [])))))

sent_by : (graph : Graph) (past : List Record) (r : Record) (host : ℕ) (e : Entry) (event : Event) → r.event ≡ event → r.step.outcome ≡ Ok
    → r.step.stamped ≡ Some e.key.ts → IsSendTo Reliable host e event → IsBegunFor graph (r ∷ past) host e
sent_by graph past r host e (Send src sent now dests) event accepted stamp listed =
    let same : r.event ≡ Send src Reliable now dests = event ∙ ap (λ (x : Service). Send src x now dests) (sym listed.0) in
    let mine : is_own graph src.0 r ≡ true = sends_own graph r src Reliable now dests same (ap is_idle accepted) in
    record {
      scattering = record { ts = e.key.ts; dests = dests };
      begun = subst (λ (k : HostId). Contains (begun_by graph (r ∷ past) k.0) (record { ts = e.key.ts; dests = dests })) listed.1.0 (send_begins graph past r src now e.key.ts dests same (ap (λ (o : Outcome). where_accepted o r.step.stamped) accepted ∙ stamp) mine);
      stamp = refl;
      listed = listed.1.1;
    }
sent_by graph past r host e _ event accepted stamp listed = absurd listed

pub sent_begun : (graph : Graph) (past : List Record) (host : ℕ) (e : Entry) → WasSent Reliable host e past → IsBegunFor graph past host e
sent_begun graph [] host e sent = absurd sent
sent_begun graph (r ∷ past) host e (inl now) = sent_by graph past r host e r.event refl now.accepted now.stamp now.listed
sent_begun graph (r ∷ past) host e (inr before) = begun_stays graph past r host e (sent_begun graph past host e before)

-- ---- the sender and the receiver are hosts of the network

ends_of : (graph : Graph) (service : Service) (host : ℕ) (e : Entry) (event : Event) → IsOfGraph graph event → IsSendTo service host e event
    → (e.key.src.0 < graph.hosts) × (host < graph.hosts)
ends_of graph service host e (Send src sent now dests) known listed = (
  subst (λ (k : HostId). k.0 < graph.hosts) listed.1.0 known.host_in,
  All-contains (λ (d : HostId × List ℕ). d.0.0 < graph.hosts) dests (record { 0 = host }, e.body) known.receivers.known listed.1.1,
)
ends_of graph service host e _ known listed = absurd listed

pub ends_in : (graph : Graph) (service : Service) (past : List Record) (host : ℕ) (e : Entry) → AreOfGraph graph past → WasSent service host e past
    → (e.key.src.0 < graph.hosts) × (host < graph.hosts)
ends_in graph service [] host e known sent = absurd sent
ends_in graph service (r ∷ past) host e known (inl now) =
    ends_of graph service host e r.event (All-head (λ (x : Record). IsOfGraph graph x.event) r past known) now.listed
ends_in graph service (r ∷ past) host e known (inr before) =
    ends_in graph service past host e (All-tail (λ (x : Record). IsOfGraph graph x.event) r past known) before
