-- Each reliable scattering that a sender began was sent: an accepted send of its host, with its timestamp and its receivers.
use Rattle.std.proofs.Common.{◌≡◌, ℕ, not, Bool, true, false, List, [], ◌∷◌, Some, refl, inl, inr, sym, subst, ap, ◌∙◌, eqb-true}
use Rattle.std.specs.List.{All, Contains}
use Rattle.std.proofs.lemmas.Bool.{and_parts}
use Rattle.std.proofs.lemmas.List.Elements.{All-nil, All-cons, All-append, All-weaker}
use Rattle.pipe_base.specs.declared.name.HostId.{HostId}
use Rattle.pipe_base.specs.declared.name.Ts.{Ts}
use Rattle.pipe_base.specs.declared.message.Entry.{Entry}
use Rattle.pipe_base.specs.declared.message.Service.{Service}
use Rattle.pipe_base.specs.declared.message.Service.TheVariants.{Reliable}
use Rattle.pipe_base.specs.declared.step.Outcome.{Outcome}
use Rattle.pipe_base.specs.declared.step.Outcome.TheVariants.{Ok}
use Rattle.pipe_base.specs.Clock.{stamp_at}
use Rattle.pipe_graph.specs.Graph.{Graph}
use Rattle.pipe_base.specs.Scattering.{Scattering, SenderCall, begun}
use Rattle.pipe_model.specs.declared.event.Event.{Event}
use Rattle.pipe_model.specs.declared.event.Event.TheVariants.{Send}
use Rattle.pipe_model.specs.declared.record.Record.{Record}
use Rattle.pipe_model.specs.Acting.{acts, is_idle, is_own, own}
use Rattle.pipe_model.specs.Clock.{next}
use Rattle.pipe_model.specs.Order.{IsSendTo, WasSent}
use Rattle.pipe_model.specs.OwnOutcome.{own_outcome, stamped, where_ok}
use Rattle.pipe_model.specs.Run.{IsHistory, IsStep}
use Rattle.pipe_model.specs.Sender.{sender_calls}
use Rattle.pipe_model.proofs.Own.{own_more, own_same}
use Rattle.pipe_model.proofs.Promises.{begun_after}

ok_where : (o : Outcome) (stamp : ℕ) (ts : Ts) → where_ok o stamp ≡ Some ts → o ≡ Ok
ok_where Ok stamp ts is = refl
ok_where _ stamp ts is = cc

-- a send that stamps is accepted
pub send_accepted : (graph : Graph) (past : List Record) (r : Record) (n : ℕ) (host : HostId) (service : Service) (now : Ts) (dests : List (HostId × List ℕ)) (ts : Ts)
    → IsStep graph past r → is_own graph n r ≡ true → r.event ≡ Send host service now dests → r.step.stamped ≡ Some ts → r.step.outcome ≡ Ok
send_accepted graph past r n host service now dests ts step mine event stamp =
    let o : List Record = own graph n past in
    let outcome : Outcome = own_outcome graph n o (Send host service now dests) in
    let stamps : where_ok outcome (stamp_at now.0 (next graph n o)) ≡ Some ts =
    sym (ap (λ (e : Event). stamped graph n o e) event) ∙ sym (step.node n mine).stamped_is ∙ stamp in
    (step.node n mine).outcome_is ∙ ap (λ (e : Event). own_outcome graph n o e) event ∙ ok_where outcome (stamp_at now.0 (next graph n o)) ts stamps

-- what a receiver is sent, as an entry of its log
abbrev pub entry_sent : ℕ → Scattering → (HostId × List ℕ) → Entry
entry_sent host s d = record { key = record { ts = s.ts; src = record { 0 = host } }; body = d.1 }

-- each receiver of the scattering was sent what is listed for it
abbrev pub IsScatteringSent : ℕ → List Record → Scattering → Type 0
IsScatteringSent host past s = (d : HostId × List ℕ) → Contains s.dests d → WasSent Reliable d.0.0 (entry_sent host s d) past

sender_is : (graph : Graph) (r : Record) (n : ℕ) (host : HostId) (service : Service) (now : Ts) (dests : List (HostId × List ℕ)) → is_own graph n r ≡ true
    → r.event ≡ Send host service now dests → host.0 ≡ n
sender_is graph r n host service now dests mine event =
    eqb-true host.0 n (subst (λ (e : Event). acts graph n e r.took ≡ true) event ((and_parts (acts graph n r.event r.took) (not (is_idle r.step.outcome)) mine).0))

-- a scattering that a record begins is sent by it
started_sent : (graph : Graph) (past : List Record) (r : Record) (n : ℕ) (host : HostId) (now ts : Ts) (dests : List (HostId × List ℕ)) → IsStep graph past r
    → is_own graph n r ≡ true → r.event ≡ Send host Reliable now dests → r.step.stamped ≡ Some ts
    → IsScatteringSent n (r ∷ past) (record { ts = ts; dests = dests })
started_sent graph past r n host now ts dests step mine event stamp d among =
    let s : Scattering = record { ts = ts; dests = dests } in
    let src : host ≡ record { 0 = n } = ap (λ (k : ℕ). record { 0 = k }) (sender_is graph r n host Reliable now dests mine event) in
    inl (record {
      accepted = send_accepted graph past r n host Reliable now dests ts step mine event stamp;
      stamp = stamp;
      listed = subst (λ (e : Event). IsSendTo Reliable d.0.0 (entry_sent n s d) e) (sym event) (refl, (src, among));
    })

later : (n : ℕ) (past : List Record) (r : Record) (ss : List Scattering) → All (IsScatteringSent n past) ss → All (IsScatteringSent n (r ∷ past)) ss
later n past r ss all =
    All-weaker (IsScatteringSent n past) (IsScatteringSent n (r ∷ past)) (λ (s : Scattering) sent d among. inr (sent d among)) ss all

begun_by : (graph : Graph) (past : List Record) (r : Record) (n : ℕ) (b : Bool) → is_own graph n r ≡ b → IsStep graph past r
    → All (IsScatteringSent n past) (begun (sender_calls graph n (own graph n past)))
    → All (IsScatteringSent n (r ∷ past)) (begun (sender_calls graph n (own graph n (r ∷ past))))
begun_by graph past r n true mine step before =
    let o : List Record = own graph n past in
    let calls : List SenderCall = sender_calls graph n o in
    subst (λ (x : List Record). All (IsScatteringSent n (r ∷ past)) (begun (sender_calls graph n x))) (sym (own_more graph n r past mine))
    (begun_after (λ (ss : List Scattering). All (IsScatteringSent n (r ∷ past)) ss) graph n o r
    (λ host now ts dests event stamp.
    let s : Scattering = record { ts = ts; dests = dests } in
    All-append (IsScatteringSent n (r ∷ past)) (begun calls) (s ∷ []) (later n past r (begun calls) before)
    (All-cons (IsScatteringSent n (r ∷ past)) s [] (started_sent graph past r n host now ts dests step mine event stamp) (All-nil (IsScatteringSent n (r ∷ past)))))
    (later n past r (begun calls) before))
begun_by graph past r n false other step before =
    subst (λ (x : List Record). All (IsScatteringSent n (r ∷ past)) (begun (sender_calls graph n x))) (sym (own_same graph n r past other))
    (later n past r (begun (sender_calls graph n (own graph n past))) before)

-- all scatterings that a host began were sent
pub begun_sent : (graph : Graph) (past : List Record) → IsHistory graph past → (n : ℕ) → All (IsScatteringSent n past) (begun (sender_calls graph n (own graph n past)))
begun_sent graph [] run n = All-nil (IsScatteringSent n [])
begun_sent graph (r ∷ past) run n = begun_by graph past r n (is_own graph n r) refl run.1 (begun_sent graph past run.0 n)
