-- A run is determined by its events: the rules leave nothing of a record open.
use Rattle.std.proofs.Common.{◌≡◌, ℕ, true, List, [], ◌∷◌, Option, map, refl, inl, inr, sym, subst, ap, ◌∙◌}
use Rattle.pipe_base.specs.declared.control.Announced.{Announced}
use Rattle.pipe_base.specs.declared.control.Addressed.{Addressed}
use Rattle.pipe_base.specs.declared.message.Entry.{Entry}
use Rattle.pipe_base.specs.declared.message.Service.{Service}
use Rattle.pipe_base.specs.declared.name.LinkId.{LinkId}
use Rattle.pipe_base.specs.declared.name.Ts.{Ts}
use Rattle.pipe_base.specs.declared.packet.Packet.{Packet}
use Rattle.pipe_base.specs.declared.step.Fate.{Fate}
use Rattle.pipe_base.specs.declared.step.Outcome.{Outcome}
use Rattle.pipe_base.specs.declared.step.Step.{Step}
use Rattle.pipe_graph.specs.Graph.{Graph}
use Rattle.pipe_model.specs.declared.event.Event.{Event}
use Rattle.pipe_model.specs.declared.record.Record.{Record}
use Rattle.pipe_model.specs.declared.record.Took.{Took}
use Rattle.pipe_model.specs.Acting.{is_own, own}
use Rattle.pipe_model.specs.Controller.{nobodys_step, view}
use Rattle.pipe_model.specs.Duties.{control, put, unrouted}
use Rattle.pipe_model.specs.Logged.{logged}
use Rattle.pipe_model.specs.Outcome.{took_of}
use Rattle.pipe_model.specs.Run.{IsHistory, IsStep, IsNodeStep, event_of}
use Rattle.pipe_model_net.proofs.Acting.{IsNobodys, nobodys_or_own}

abbrev of : Event → Took → Step → Record
of e t s = record { event = e; took = t; step = s }

-- what a node owes is a function of the event, its outcome, what was taken, the stamp, the fate, the marks, what was noted and what was logged
control_same : (graph : Graph) (n : ℕ) (o : List Record) (e : Event) (t : Took) (a b : Step) → a.downed ≡ b.downed → a.dropped ≡ b.dropped
    → a.stamped ≡ b.stamped → a.noted ≡ b.noted → a.outcome ≡ b.outcome → control graph n o (of e t a) ≡ control graph n o (of e t b)
control_same graph n o e t a b down drop stamp note out =
    let f : List (LinkId × Ts) → List LinkId → Option Ts → List Announced → List Addressed =
    λ d l s h. control graph n o (of e t (record a { downed = d; dropped = l; stamped = s; noted = h; outcome = b.outcome })) in
    ap (λ (x : Outcome). control graph n o (of e t (record a { outcome = x }))) out
    ∙ ap (λ (d : List (LinkId × Ts)). f d a.dropped a.stamped a.noted) down ∙ ap (λ (l : List LinkId). f b.downed l a.stamped a.noted) drop
    ∙ ap (λ (s : Option Ts). f b.downed b.dropped s a.noted) stamp ∙ ap (λ (h : List Announced). f b.downed b.dropped b.stamped h) note

logged_same : (graph : Graph) (n : ℕ) (o : List Record) (e : Event) (t : Took) (a b : Step) → a.downed ≡ b.downed → a.dropped ≡ b.dropped → a.noted ≡ b.noted
    → logged graph n o (of e t a) ≡ logged graph n o (of e t b)
logged_same graph n o e t a b down drop note =
    let f : List (LinkId × Ts) → List LinkId → List Announced → List (Service × Entry) = λ d l h. logged graph n o (of e t (record a { downed = d; dropped = l; noted = h })) in
    ap (λ (d : List (LinkId × Ts)). f d a.dropped a.noted) down ∙ ap (λ (l : List LinkId). f b.downed l a.noted) drop ∙ ap (λ (h : List Announced). f b.downed b.dropped h) note

put_same : (graph : Graph) (n : ℕ) (o : List Record) (e : Event) (t : Took) (a b : Step) → a.downed ≡ b.downed → a.dropped ≡ b.dropped
    → a.stamped ≡ b.stamped → a.fate ≡ b.fate → a.logged ≡ b.logged → a.noted ≡ b.noted → a.outcome ≡ b.outcome → put graph n o (of e t a) ≡ put graph n o (of e t b)
put_same graph n o e t a b down drop stamp fate log note out =
    let f : List (LinkId × Ts) → List LinkId → Option Ts → Option Fate → List (Service × Entry) → List Announced → List (LinkId × Packet) =
    λ d l s x m h. put graph n o (of e t (record a { downed = d; dropped = l; stamped = s; fate = x; logged = m; noted = h; outcome = b.outcome })) in
    ap (λ (x : Outcome). put graph n o (of e t (record a { outcome = x }))) out
    ∙ ap (λ (d : List (LinkId × Ts)). f d a.dropped a.stamped a.fate a.logged a.noted) down ∙ ap (λ (l : List LinkId). f b.downed l a.stamped a.fate a.logged a.noted) drop
    ∙ ap (λ (s : Option Ts). f b.downed b.dropped s a.fate a.logged a.noted) stamp ∙ ap (λ (x : Option Fate). f b.downed b.dropped b.stamped x a.logged a.noted) fate
    ∙ ap (λ (m : List (Service × Entry)). f b.downed b.dropped b.stamped b.fate m a.noted) log
    ∙ ap (λ (h : List Announced). f b.downed b.dropped b.stamped b.fate b.logged h) note

unrouted_same : (graph : Graph) (n : ℕ) (o : List Record) (e : Event) (t : Took) (a b : Step) → a.downed ≡ b.downed → a.dropped ≡ b.dropped
    → a.stamped ≡ b.stamped → a.fate ≡ b.fate → a.logged ≡ b.logged → a.noted ≡ b.noted → a.outcome ≡ b.outcome → unrouted graph n o (of e t a) ≡ unrouted graph n o (of e t b)
unrouted_same graph n o e t a b down drop stamp fate log note out =
    let f : List (LinkId × Ts) → List LinkId → Option Ts → Option Fate → List (Service × Entry) → List Announced → ℕ =
    λ d l s x m h. unrouted graph n o (of e t (record a { downed = d; dropped = l; stamped = s; fate = x; logged = m; noted = h; outcome = b.outcome })) in
    ap (λ (x : Outcome). unrouted graph n o (of e t (record a { outcome = x }))) out
    ∙ ap (λ (d : List (LinkId × Ts)). f d a.dropped a.stamped a.fate a.logged a.noted) down ∙ ap (λ (l : List LinkId). f b.downed l a.stamped a.fate a.logged a.noted) drop
    ∙ ap (λ (s : Option Ts). f b.downed b.dropped s a.fate a.logged a.noted) stamp ∙ ap (λ (x : Option Fate). f b.downed b.dropped b.stamped x a.logged a.noted) fate
    ∙ ap (λ (m : List (Service × Entry)). f b.downed b.dropped b.stamped b.fate m a.noted) log
    ∙ ap (λ (h : List Announced). f b.downed b.dropped b.stamped b.fate b.logged h) note

-- equal parts make equal steps
parts_same : (a b : Step) → a.put ≡ b.put → a.control ≡ b.control → a.downed ≡ b.downed → a.dropped ≡ b.dropped → a.stamped ≡ b.stamped → a.fate ≡ b.fate
    → a.logged ≡ b.logged → a.noted ≡ b.noted → a.unrouted ≡ b.unrouted → a.outcome ≡ b.outcome → a ≡ b
parts_same a b put control down drop stamp fate log note lost out =
    let f1 : a ≡ record a { put = b.put } = ap (λ (x : List (LinkId × Packet)). record a { put = x }) put in
    let f2 : record a { put = b.put } ≡ record b { downed = a.downed; dropped = a.dropped; stamped = a.stamped; fate = a.fate; logged = a.logged; noted = a.noted; unrouted = a.unrouted; outcome = a.outcome } =
    ap (λ (x : List Addressed). record a { put = b.put; control = x }) control in
    let f3 = ap (λ (x : List (LinkId × Ts)). record b { downed = x; dropped = a.dropped; stamped = a.stamped; fate = a.fate; logged = a.logged; noted = a.noted; unrouted = a.unrouted; outcome = a.outcome }) down in
    let f4 = ap (λ (x : List LinkId). record b { dropped = x; stamped = a.stamped; fate = a.fate; logged = a.logged; noted = a.noted; unrouted = a.unrouted; outcome = a.outcome }) drop in
    let f5 = ap (λ (x : Option Ts). record b { stamped = x; fate = a.fate; logged = a.logged; noted = a.noted; unrouted = a.unrouted; outcome = a.outcome }) stamp in
    let f6 = ap (λ (x : Option Fate). record b { fate = x; logged = a.logged; noted = a.noted; unrouted = a.unrouted; outcome = a.outcome }) fate in
    let f7 = ap (λ (x : List (Service × Entry)). record b { logged = x; noted = a.noted; unrouted = a.unrouted; outcome = a.outcome }) log in
    let f8 = ap (λ (x : List Announced). record b { noted = x; unrouted = a.unrouted; outcome = a.outcome }) note in
    let f9 = ap (λ (x : ℕ). record b { unrouted = x; outcome = a.outcome }) lost in
    let f10 = ap (λ (x : Outcome). record b { outcome = x }) out in
    f1 ∙ f2 ∙ f3 ∙ f4 ∙ f5 ∙ f6 ∙ f7 ∙ f8 ∙ f9 ∙ f10

node_step_same : (graph : Graph) (n : ℕ) (o : List Record) (e : Event) (t : Took) (a b : Step) → IsNodeStep graph n o (of e t a) → IsNodeStep graph n o (of e t b)
    → a.outcome ≡ b.outcome → a ≡ b
node_step_same graph n o e t a b sa sb out =
    let down : a.downed ≡ b.downed = sa.downed_is ∙ sym sb.downed_is in
    let drop : a.dropped ≡ b.dropped = sa.dropped_is ∙ sym sb.dropped_is in
    let stamp : a.stamped ≡ b.stamped = sa.stamped_is ∙ sym sb.stamped_is in
    let fate : a.fate ≡ b.fate = sa.fate_is ∙ sym sb.fate_is in
    let note : a.noted ≡ b.noted = sa.noted_is ∙ sym sb.noted_is in
    let log : a.logged ≡ b.logged = sa.logged_is ∙ logged_same graph n o e t a b down drop note ∙ sym sb.logged_is in
    parts_same a b (sa.put_is ∙ put_same graph n o e t a b down drop stamp fate log note out ∙ sym sb.put_is) (sa.control_is ∙ control_same graph n o e t a b down drop stamp note out ∙ sym sb.control_is) down drop stamp fate log note
    (sa.unrouted_is ∙ unrouted_same graph n o e t a b down drop stamp fate log note out ∙ sym sb.unrouted_is) out

step_same : (graph : Graph) (past : List Record) (e : Event) (t : Took) (a b : Step) → IsStep graph past (of e t a) → IsStep graph past (of e t b) → a ≡ b
step_same graph past e t a b sa sb =
    let out : a.outcome ≡ b.outcome = sa.outcome_is ∙ sym sb.outcome_is in
    elim (nobodys_or_own graph (of e t a)) [
      | inl quiet ↦
          let quiet_b : IsNobodys graph (of e t b) = subst (λ (x : Outcome). IsNobodys graph (of e t (record b { outcome = x }))) out quiet in
          sa.nobodys quiet ∙ ap (nobodys_step graph (view graph past) e) out ∙ sym (sb.nobodys quiet_b)
      | inr mine ↦
          let mine_b : is_own graph mine.0 (of e t b) ≡ true = subst (λ (x : Outcome). is_own graph mine.0 (of e t (record b { outcome = x })) ≡ true) out mine.1 in
          node_step_same graph mine.0 (own graph mine.0 past) e t a b (sa.node mine.0 mine.1) (sb.node mine.0 mine_b) out
    ]

record_same : (graph : Graph) (past : List Record) (r s : Record) → r.event ≡ s.event → IsStep graph past r → IsStep graph past s → r ≡ s
record_same graph past r s event sr ss =
    let took : r.took ≡ s.took = ap (λ (x : Took). x) (sr.took_is ∙ ap (λ (e : Event). took_of graph past e) event ∙ sym ss.took_is) in
    let moved : IsStep graph past (of s.event s.took r.step) =
    subst (λ (t : Took). IsStep graph past (of s.event t r.step)) took (subst (λ (e : Event). IsStep graph past (of e r.took r.step)) event sr) in
    let steps : r.step ≡ s.step = step_same graph past s.event s.took r.step s.step moved ss in
    ap (λ (e : Event). of e r.took r.step) event ∙ ap (λ (t : Took). of s.event t r.step) took ∙ ap (λ (x : Step). of s.event s.took x) steps

-- two runs of the same events are the same
pub run_same : (graph : Graph) (xs ys : List Record) → IsHistory graph xs → IsHistory graph ys → map event_of xs ≡ map event_of ys → xs ≡ ys
run_same graph [] [] rx ry same = refl
run_same graph [] (y ∷ ys) rx ry same = cc
run_same graph (x ∷ xs) [] rx ry same = cc
run_same graph (x ∷ xs) (y ∷ ys) rx ry same =
    let event : x.event ≡ y.event = cc in
    let rest : map event_of xs ≡ map event_of ys = cc in
    let past : xs ≡ ys = run_same graph xs ys rx.0 ry.0 rest in
    let step : IsStep graph ys x = subst (λ (p : List Record). IsStep graph p x) past rx.1 in
    ap (λ (p : List Record). x ∷ p) past ∙ ap (λ (r : Record). r ∷ ys) (record_same graph ys x y event step ry.1)
