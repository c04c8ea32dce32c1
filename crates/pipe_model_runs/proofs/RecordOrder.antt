-- What holds of the scatterings of all hosts holds of them in the order of the records, and the other way round; and their
-- numbers rise.
use Rattle.std.proofs.Common.{◌≡◌, ℕ, ◌<◌, ◌&&◌, not, if◌then◌else◌, Bool, true, false, List, [], ◌∷◌, ◌++◌, Option, None, Some, IfSome, get_or, length, map, refl, sym, ap, subst, ◌∙◌, arith, eqb-true, lt-ltb, ltb-true}
use Rattle.std.specs.List.{All, AllPairs}
use Rattle.std.proofs.lemmas.Bool.{and_parts}
use Rattle.std.proofs.lemmas.List.{append-nil}
use Rattle.std.proofs.lemmas.List.Elements.{All-nil, All-cons, All-append, All-map, All-weaker}
use Rattle.std.proofs.lemmas.List.Quantifiers.{all_pairs_push}
use Rattle.pipe_base.specs.declared.control.Announced.{Announced}
use Rattle.pipe_base.specs.declared.message.Service.TheVariants.{Reliable}
use Rattle.pipe_base.specs.declared.name.Ts.{Ts}
use Rattle.pipe_base.specs.declared.packet.Packet.{Packet}
use Rattle.pipe_base.specs.Scattering.{Scattering, SenderCall, Acked, RecallAcked, begun}
use Rattle.pipe_graph.specs.Graph.{Graph, is_host}
use Rattle.pipe_model.specs.declared.event.Event.{Event}
use Rattle.pipe_model.specs.declared.event.Event.TheVariants.{Send}
use Rattle.pipe_model.specs.declared.record.Record.{Record}
use Rattle.pipe_model.specs.declared.record.Took.{Took}
use Rattle.pipe_model.specs.Acting.{acts, is_idle, is_own, own}
use Rattle.pipe_model.specs.Got.{gets}
use Rattle.pipe_model.specs.Moments.{noted_hosts}
use Rattle.pipe_model.specs.Order.{AreStampsCausal, IsAboveLogs, IsCausal}
use Rattle.pipe_model.specs.Sender.{accepted_stamp, is_ack, is_recall_ack, sender_calls, with_answer, with_begun, with_noted}
use Rattle.pipe_model.proofs.Own.{own_more, own_same}
use Rattle.pipe_model_runs.specs.RecordOrder.{IsCausalInOrder, NumberedScattering, numbered_in, scatterings, sender_of}
use Rattle.pipe_model_runs.proofs.Lists.{All-from_map, All-parts}

-- ---- a host's scatterings after a record are those before, and the one that it begins

begun_noted : (noted new : List Announced) (calls : List SenderCall) → begun (with_noted noted new calls) ≡ begun calls
begun_noted noted [] calls = refl
begun_noted noted (a ∷ new) calls = refl

answer_by_kind : (ack recall_ack : Bool) (ts from : ℕ) (calls : List SenderCall)
    → begun (if ack then Acked ts from ∷ calls else if recall_ack then RecallAcked ts from ∷ calls else calls) ≡ begun calls
answer_by_kind true recall_ack ts from calls = refl
answer_by_kind false true ts from calls = refl
answer_by_kind false false ts from calls = refl

begun_answer : (o : Option Packet) (calls : List SenderCall) → begun (with_answer o calls) ≡ begun calls
begun_answer None calls = refl
begun_answer (Some p) calls = answer_by_kind (is_ack p.kind) (is_recall_ack p.kind) p.ts.0 p.src.0 calls

-- what an event with its stamp begins
abbrev new_of : Event → Option Ts → List Scattering
new_of event stamp = begun (with_begun event stamp [])

begun_event : (event : Event) (stamp : Option Ts) (calls : List SenderCall) → begun (with_begun event stamp calls) ≡ begun calls ++ new_of event stamp
begun_event (Send host Reliable now dests) (Some ts) calls = refl
begun_event _ _ calls = sym (append-nil (begun calls))

abbrev begun_at : Graph → ℕ → List Record → List Scattering
begun_at graph host past = begun (sender_calls graph host (own graph host past))

abbrev new_at : Bool → Record → List Scattering
new_at mine r = if mine then new_of r.event (accepted_stamp r.step) else []

begun_more : (mine : Bool) (graph : Graph) (host : ℕ) (past : List Record) (r : Record) → is_own graph host r ≡ mine
    → begun_at graph host (r ∷ past) ≡ begun_at graph host past ++ new_at mine r
begun_more true graph host past r is =
    let o : List Record = own graph host past in
    let first : List SenderCall = with_begun r.event (accepted_stamp r.step) (sender_calls graph host o) in
    ap (λ (x : List Record). begun (sender_calls graph host x)) (own_more graph host r past is)
    ∙ begun_noted (noted_hosts (r ∷ o)) r.step.noted (with_answer (gets graph host o r) first)
    ∙ begun_answer (gets graph host o r) first ∙ begun_event r.event (accepted_stamp r.step) (sender_calls graph host o)
begun_more false graph host past r isnt =
    ap (λ (x : List Record). begun (sender_calls graph host x)) (own_same graph host r past isnt) ∙ sym (append-nil (begun_at graph host past))

-- ---- of all hosts, and in order

abbrev OfHosts : (ℕ → Scattering → Type 0) → Graph → List Record → Type 0
OfHosts P graph past = (host : ℕ) → host < graph.hosts → All (P host) (begun_at graph host past)

abbrev InOrder : (ℕ → Scattering → Type 0) → List NumberedScattering → Type 0
InOrder P list = All (λ s. P s.host s.scattering) list

parts_of : (P : ℕ → Scattering → Type 0) (mine : Bool) (graph : Graph) (past : List Record) (r : Record) (host : ℕ) → is_own graph host r ≡ mine
    → All (P host) (begun_at graph host (r ∷ past)) → All (P host) (begun_at graph host past) × All (P host) (new_at mine r)
parts_of P mine graph past r host is all =
    All-parts (P host) (begun_at graph host past) (new_at mine r) (subst (All (P host)) (begun_more mine graph host past r is) all)

number_new : (P : ℕ → Scattering → Type 0) (known mine : Bool) (graph : Graph) (past : List Record) (r : Record) → is_host graph (sender_of r.event) ≡ known
    → is_own graph (sender_of r.event) r ≡ mine → OfHosts P graph (r ∷ past)
    → InOrder P (if known && mine then map (λ s. record { number = length past; host = sender_of r.event; scattering = s }) (new_of r.event (accepted_stamp r.step)) else [])
number_new P true true graph past r known mine all =
    let host : ℕ = sender_of r.event in
    All-map (λ (s : NumberedScattering). P s.host s.scattering) (λ s. record { number = length past; host = host; scattering = s }) (new_of r.event (accepted_stamp r.step))
    (parts_of P true graph past r host mine (all host (ltb-true host graph.hosts known))).1
number_new P true false graph past r known mine all = All-nil (λ (s : NumberedScattering). P s.host s.scattering)
number_new P false mine graph past r known is all = All-nil (λ (s : NumberedScattering). P s.host s.scattering)

pub all_in_order : (P : ℕ → Scattering → Type 0) (graph : Graph) (past : List Record) → OfHosts P graph past → InOrder P (scatterings graph past)
all_in_order P graph [] all = All-nil (λ (s : NumberedScattering). P s.host s.scattering)
all_in_order P graph (r ∷ past) all =
    let before : OfHosts P graph past = λ host known. (parts_of P (is_own graph host r) graph past r host refl (all host known)).0 in
    All-append (λ (s : NumberedScattering). P s.host s.scattering) (scatterings graph past) (numbered_in graph (length past) r)
    (all_in_order P graph past before)
    (number_new P (is_host graph (sender_of r.event)) (is_own graph (sender_of r.event) r) graph past r refl refl all)

-- only the sender of an event begins a scattering in it
by_sender : (P : Scattering → Type 0) (graph : Graph) (host : ℕ) (event : Event) (took : Took) (stamp : Option Ts) → acts graph host event took ≡ true
    → (sender_of event ≡ host → All P (new_of event stamp)) → All P (new_of event stamp)
by_sender P graph host (Send sender service now dests) took stamp mine all = all (eqb-true sender.0 host mine)
by_sender P graph host _ took stamp mine all = All-nil P

of_sender : (P : ℕ → Scattering → Type 0) (graph : Graph) (number : ℕ) (r : Record) (host : ℕ) → host < graph.hosts → is_own graph host r ≡ true → sender_of r.event ≡ host
    → InOrder P (numbered_in graph number r) → All (P host) (new_of r.event (accepted_stamp r.step))
of_sender P graph number r host known mine is all =
    let new : List Scattering = new_of r.event (accepted_stamp r.step) in
    let made : ℕ → Scattering → NumberedScattering = λ h s. record { number = number; host = h; scattering = s } in
    let at : InOrder P (if is_host graph host && is_own graph host r then map (made host) new else []) =
    subst (λ (h : ℕ). InOrder P (if is_host graph h && is_own graph h r then map (made h) new else [])) is all in
    let both : (is_host graph host && is_own graph host r) ≡ true = ap (λ (b : Bool). b && is_own graph host r) (lt-ltb host graph.hosts known) ∙ mine in
    All-from_map (λ (s : NumberedScattering). P s.host s.scattering) (made host) new
    (subst (λ (b : Bool). InOrder P (if b then map (made host) new else [])) both at)

more_of : (P : ℕ → Scattering → Type 0) (mine : Bool) (graph : Graph) (past : List Record) (r : Record) (host : ℕ) → host < graph.hosts → is_own graph host r ≡ mine
    → InOrder P (numbered_in graph (length past) r) → All (P host) (new_at mine r)
more_of P true graph past r host known mine all =
    by_sender (P host) graph host r.event r.took (accepted_stamp r.step) (and_parts (acts graph host r.event r.took) (not (is_idle r.step.outcome)) mine).0
    (λ is. of_sender P graph (length past) r host known mine is all)
more_of P false graph past r host known other all = All-nil (P host)

pub all_by_hosts : (P : ℕ → Scattering → Type 0) (graph : Graph) (past : List Record) → InOrder P (scatterings graph past) → OfHosts P graph past
all_by_hosts P graph [] all host known = All-nil (P host)
all_by_hosts P graph (r ∷ past) all host known =
    let mine : Bool = is_own graph host r in
    let parts = All-parts (λ (s : NumberedScattering). P s.host s.scattering) (scatterings graph past) (numbered_in graph (length past) r) all in
    subst (All (P host)) (sym (begun_more mine graph host past r refl))
    (All-append (P host) (begun_at graph host past) (new_at mine r) (all_by_hosts P graph past parts.0 host known) (more_of P mine graph past r host known refl parts.1))

-- ---- causality

causal_parts : (mine : Bool) (graph : Graph) (past : List Record) (r : Record) (host : ℕ) → is_own graph host r ≡ mine → IsCausal (own graph host (r ∷ past))
    → IsCausal (own graph host past) × (is_own graph host r ≡ true → IfSome r.step.stamped (λ ts. IsAboveLogs ts.0 (own graph host past)))
causal_parts true graph past r host is causal =
    let both : IsCausal (r ∷ own graph host past) = subst IsCausal (own_more graph host r past is) causal in (both.0, λ mine. both.1)
causal_parts false graph past r host isnt causal = (subst IsCausal (own_same graph host r past isnt) causal, λ mine. cc)

pub causal_in_order : (graph : Graph) (past : List Record) → AreStampsCausal graph past → IsCausalInOrder graph past
causal_in_order graph [] causal = tt
causal_in_order graph (r ∷ past) causal =
    let parts = λ (host : ℕ) (known : host < graph.hosts). causal_parts (is_own graph host r) graph past r host refl (causal host known) in
    (causal_in_order graph past (λ host known. (parts host known).0), λ host known. (parts host known).1)

causal_more : (mine : Bool) (graph : Graph) (past : List Record) (r : Record) (host : ℕ) → is_own graph host r ≡ mine → IsCausal (own graph host past)
    → (is_own graph host r ≡ true → IfSome r.step.stamped (λ ts. IsAboveLogs ts.0 (own graph host past))) → IsCausal (own graph host (r ∷ past))
causal_more true graph past r host is before now = subst IsCausal (sym (own_more graph host r past is)) (before, now is)
causal_more false graph past r host isnt before now = subst IsCausal (sym (own_same graph host r past isnt)) before

pub causal_by_hosts : (graph : Graph) (past : List Record) → IsCausalInOrder graph past → AreStampsCausal graph past
causal_by_hosts graph [] causal host known = tt
causal_by_hosts graph (r ∷ past) causal host known =
    causal_more (is_own graph host r) graph past r host refl (causal_by_hosts graph past causal.0 host known) (causal.1 host known)

-- ---- the numbers rise

by_event : (P : List NumberedScattering → Type 0) (number host : ℕ) (event : Event) (stamp : Option Ts) → P [] → ((s : NumberedScattering) → s.number ≡ number → P (s ∷ []))
    → P (map (λ s. record { number = number; host = host; scattering = s }) (new_of event stamp))
by_event P number host (Send sender Reliable now dests) (Some ts) none one = one (record { number = number; host = host; scattering = record { ts = ts; dests = dests } }) refl
by_event P number host _ _ none one = none

by_test : (P : List NumberedScattering → Type 0) (test : Bool) (list : List NumberedScattering) → P [] → P list → P (if test then list else [])
by_test P true list none some = some
by_test P false list none some = none

-- a record begins no scattering, or one with its number
by_new : (P : List NumberedScattering → Type 0) (graph : Graph) (number : ℕ) (r : Record) → P [] → ((s : NumberedScattering) → s.number ≡ number → P (s ∷ []))
    → P (numbered_in graph number r)
by_new P graph number r none one =
    by_test P (is_host graph (sender_of r.event) && is_own graph (sender_of r.event) r) _ none (by_event P number (sender_of r.event) r.event (accepted_stamp r.step) none one)

numbered_below : (graph : Graph) (past : List Record) → All (λ s. s.number < length past) (scatterings graph past)
numbered_below graph [] = All-nil (λ (s : NumberedScattering). s.number < 0)
numbered_below graph (r ∷ past) =
    let Below : NumberedScattering → Type 0 = λ s. s.number < length (r ∷ past) in
    All-append Below (scatterings graph past) (numbered_in graph (length past) r)
    (All-weaker (λ (s : NumberedScattering). s.number < length past) Below (λ s below. omega arith) (scatterings graph past) (numbered_below graph past))
    (by_new (All Below) graph (length past) r (All-nil Below) (λ s is. All-cons Below s [] (omega arith) (All-nil Below)))

pub numbers_rise : (graph : Graph) (past : List Record) → AllPairs (λ a b. a.number < b.number) (scatterings graph past)
numbers_rise graph [] = λ i j d before within. absurd (omega arith)
numbers_rise graph (r ∷ past) =
    let Rises : NumberedScattering → NumberedScattering → Type 0 = λ a b. a.number < b.number in
    let list : List NumberedScattering = scatterings graph past in
    by_new (λ (new : List NumberedScattering). AllPairs Rises (list ++ new)) graph (length past) r (subst (AllPairs Rises) (sym (append-nil list)) (numbers_rise graph past))
    (λ s is. all_pairs_push Rises list s (numbers_rise graph past)
    (λ k d within. subst (λ (n : ℕ). (get_or list k d).number < n) (sym is) (numbered_below graph past k d within)))
