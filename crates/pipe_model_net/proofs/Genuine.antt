-- What a host holds, and so what it logs, was sent to it with that body.
use Rattle.std.proofs.Common.{◌≡◌, ℕ, ◌==◌, ◌&&◌, not, if◌then◌else◌, Bool, true, false, List, [], ◌∷◌, Option, None, Some, map, refl, inr, sym, subst, ap, ◌∙◌, arith}
use Rattle.std.specs.List.{All}
use Rattle.std.proofs.lemmas.List.Elements.{All-nil, All-map, All-weaker, All-filter}
use Rattle.pipe_base.specs.declared.message.Entry.{Entry}
use Rattle.pipe_base.specs.declared.message.Key.{Key}
use Rattle.pipe_base.specs.declared.message.Service.{Service}
use Rattle.pipe_base.specs.declared.packet.Packet.{Packet}
use Rattle.pipe_base.specs.declared.step.Fate.{Fate}
use Rattle.pipe_base.specs.declared.step.Fate.TheVariants.{Held}
use Rattle.pipe_base.specs.Failed.{without_void}
use Rattle.pipe_graph.specs.Graph.{Graph, is_host}
use Rattle.pipe_base.specs.Messages.{Messages, entry_of, from_barrier}
use Rattle.pipe_base.proofs.KeyOrder.{insert_all}
use Rattle.pipe_model.specs.declared.record.Record.{Record}
use Rattle.pipe_model.specs.Acting.{is_own, own}
use Rattle.pipe_model.specs.Fate.{failed_for, fate_in, with_held, held, plane_of}
use Rattle.pipe_model.specs.Got.{carries, gets_of, got, is_beacon, key_of, message_of}
use Rattle.pipe_model.specs.Logged.{passed_in, entries_of, standing}
use Rattle.pipe_model.specs.MessagesSent.{IsMessageSent}
use Rattle.pipe_model.specs.Moments.{received, moments_of, barrier_at}
use Rattle.pipe_model.specs.Order.{WasSent, LoggedWasSent, IsGenuine}
use Rattle.pipe_model.specs.Run.{IsHistory, IsStep}
use Rattle.pipe_model.specs.Waiting.{waiting_on}
use Rattle.pipe_model.proofs.Entries.{entries_logged}
use Rattle.pipe_model.proofs.Own.{own_more, own_same}
use Rattle.pipe_model_net.proofs.Packets.{took_waited, at_place}
use Rattle.pipe_model_net.proofs.Sent.{entry_from, messages_sent, received_took}

-- a message of a host was sent to it
abbrev pub SentTo : Service → ℕ → List Record → (Key × List ℕ) → Type 0
SentTo service node past m = WasSent service node (entry_of m) past

-- the message that a record brings is addressed to the node and of the service
pub record Brings (service : Service) (node : ℕ) (q : ℕ × Packet) (p : Packet) : Type 0 where
  pub same : q.1 ≡ p
  pub dst : p.dst.0 ≡ node
  pub kind : carries service p.kind ≡ true

same_number : (a b : ℕ) → (a == b) ≡ true → a ≡ b
same_number a b is = grind (arith, is)

-- (a && (b && c)) is a test of all three
brought_by : (a b c d : Bool) (service : Service) (node : ℕ) (q : ℕ × Packet) (p : Packet) → (q.1.dst.0 == node) ≡ b → carries service q.1.kind ≡ d
    → (if d then Some q.1 else None) ≡ message_of service (Some q.1) → message_of service (if a && (b && c) then Some q.1 else None) ≡ Some p → Brings service node q p
brought_by true true true true service node q p dst kind here is =
    let same : q.1 ≡ p = cc in
    record { same = same; dst = ap (λ (x : Packet). x.dst.0) (sym same) ∙ same_number q.1.dst.0 node dst; kind = ap (λ (x : Packet). carries service x.kind) (sym same) ∙ kind }
brought_by true true true false service node q p dst kind here is = cc
brought_by true true false d service node q p dst kind here is = cc
brought_by true false c d service node q p dst kind here is = cc
brought_by false b c d service node q p dst kind here is = cc

pub brings : (service : Service) (graph : Graph) (node : ℕ) (q : ℕ × Packet) (p : Packet) → message_of service (gets_of graph node (Some q)) ≡ Some p
    → Brings service node q p
brings service graph node q p is =
    brought_by (is_host graph node) (q.1.dst.0 == node) (not (is_beacon q.1.kind)) (carries service q.1.kind) service node q p refl refl refl is

-- the message that a record brings was sent before
pub got_sent : (service : Service) (graph : Graph) (past : List Record) (r : Record) (n : ℕ) (o : Option (ℕ × Packet)) (p : Packet) → IsHistory graph past
    → IsStep graph past r → received graph n (own graph n past) r ≡ o → message_of service (gets_of graph n o) ≡ Some p → SentTo service n past (key_of p, p.body)
got_sent service graph past r n None p run step is got = cc
got_sent service graph past r n (Some q) p run step is got =
    let b = brings service graph n q p got in
    let took = received_took (moments_of graph n (own graph n past)) r.event r.took q is in
    let w = took_waited graph past r took.0 q.1 step took.1 in
    let sent : IsMessageSent past q.1 =
    at_place (IsMessageSent past) (waiting_on w.link past) w.place q.1 ((messages_sent graph past run).waiting w.link) w.waited in
    let sent_p : IsMessageSent past p = subst (IsMessageSent past) b.same sent in
    subst (λ (node : ℕ). WasSent service node (entry_from p) past) b.dst (sent_p service b.kind)

-- what holds of all held and of the new message, holds of all held after it
held_more : (P : Key × List ℕ → Type 0) (f : Option Fate) (o : Option Packet) (ms : Messages) → All P ms → ((p : Packet) → o ≡ Some p → P (key_of p, p.body)) → All P (with_held f o ms)
held_more P (Some Held) (Some p) ms all new = insert_all P (key_of p) p.body ms (new p refl) all
held_more P _ _ ms all new = all

-- what a node holds in a record of its own was sent before that record
held_sent_now : (service : Service) (graph : Graph) (past : List Record) (r : Record) (n : ℕ) → IsHistory graph past → IsStep graph past r
    → All (SentTo service n past) (held service graph n (own graph n past)) → All (SentTo service n past) (held service graph n (r ∷ own graph n past))
held_sent_now service graph past r n run step before =
    let o : List Record = own graph n past in
    held_more (SentTo service n past) (fate_in service graph n o r)
    (got service graph n o r) (held service graph n o) before (λ p is. got_sent service graph past r n (received graph n o r) p run step refl is)

later : (service : Service) (n : ℕ) (past : List Record) (r : Record) (ms : Messages) → All (SentTo service n past) ms → All (SentTo service n (r ∷ past)) ms
later service n past r ms all = All-weaker (SentTo service n past) (SentTo service n (r ∷ past)) (λ m sent. inr sent) ms all

held_by : (service : Service) (graph : Graph) (past : List Record) (r : Record) (n : ℕ) (b : Bool) → is_own graph n r ≡ b → IsHistory graph past → IsStep graph past r
    → All (SentTo service n past) (held service graph n (own graph n past)) → All (SentTo service n (r ∷ past)) (held service graph n (own graph n (r ∷ past)))
held_by service graph past r n true is run step before =
    subst (λ (o : List Record). All (SentTo service n (r ∷ past)) (held service graph n o)) (sym (own_more graph n r past is))
    (later service n past r (held service graph n (r ∷ own graph n past)) (held_sent_now service graph past r n run step before))
held_by service graph past r n false isnt run step before =
    subst (λ (o : List Record). All (SentTo service n (r ∷ past)) (held service graph n o)) (sym (own_same graph n r past isnt))
    (later service n past r (held service graph n (own graph n past)) before)

held_sent : (service : Service) (graph : Graph) (past : List Record) (n : ℕ) → IsHistory graph past → All (SentTo service n past) (held service graph n (own graph n past))
held_sent service graph [] n run = All-nil (SentTo service n [])
held_sent service graph (r ∷ past) n run = held_by service graph past r n (is_own graph n r) refl run.0 run.1 (held_sent service graph past n run.0)

pub passed_sent : (service : Service) (graph : Graph) (past : List Record) (r : Record) (n : ℕ) → IsHistory graph past → IsStep graph past r
    → All (SentTo service n past) (passed_in service graph n (own graph n past) r)
passed_sent service graph past r n run step =
    let o : List Record = own graph n past in
    All-filter _ (SentTo service n past) (from_barrier (barrier_at (plane_of service) graph n o) (standing service graph n (r ∷ o)))
    (All-filter _ (SentTo service n past) (standing service graph n (r ∷ o))
    (All-filter _ (SentTo service n past) (without_void (failed_for service (r ∷ o)) (held service graph n (r ∷ o)))
    (All-filter _ (SentTo service n past) (held service graph n (r ∷ o)) (held_sent_now service graph past r n run step (held_sent service graph past n run)))))

logged_sent : (graph : Graph) (past : List Record) (r : Record) (n : ℕ) (service : Service) → IsHistory graph past → IsStep graph past r → LoggedWasSent graph n service r past
logged_sent graph past r n service run step mine =
    let o : List Record = own graph n past in
    let entries : entries_of service r.step.logged ≡ map entry_of (passed_in service graph n o r) =
    ap (entries_of service) (step.node n mine).logged_is ∙ entries_logged service graph n o r in
    subst (λ (es : List Entry). All (λ (e : Entry). WasSent service n e past) es) (sym entries)
    (All-map (λ (e : Entry). WasSent service n e past) entry_of (passed_in service graph n o r) (passed_sent service graph past r n run step))

pub run_genuine : (graph : Graph) (past : List Record) → IsHistory graph past → IsGenuine graph past
run_genuine graph [] run = tt
run_genuine graph (r ∷ past) run = (run_genuine graph past run.0, λ n service. logged_sent graph past r n service run.0 run.1)
