-- Where links keep order, no best-effort message that is put on a link is below the field that it carries.
use Rattle.std.proofs.Common.{◌≡◌, ℕ, ◌<◌, ◌≤◌, ◌==◌, not, true, false, List, ◌∷◌, Some, refl, inl, inr, sym, subst, ap, ◌∙◌, arith, eqb-true, le_trans}
use Rattle.std.specs.List.{All}
use Rattle.std.proofs.lemmas.Bool.{and_parts}
use Rattle.std.proofs.lemmas.Bool.Decides.{nat_tests}
use Rattle.std.proofs.lemmas.List.Elements.{All-nil}
use Rattle.pipe_base.specs.declared.message.Service.{Service}
use Rattle.pipe_base.specs.declared.message.Service.TheVariants.{BestEffort, Reliable}
use Rattle.pipe_base.specs.declared.name.HostId.{HostId}
use Rattle.pipe_base.specs.declared.name.LinkId.{LinkId}
use Rattle.pipe_base.specs.declared.name.Ts.{Ts}
use Rattle.pipe_base.specs.declared.packet.Packet.{Packet}
use Rattle.pipe_base.specs.declared.packet.Plane.TheVariants as plane
use Rattle.pipe_base.specs.Barrier.{register}
use Rattle.pipe_graph.specs.Graph.{Graph, ins_of, is_host}
use Rattle.pipe_base.specs.Moment.{Moment, is_up}
use Rattle.pipe_base.specs.Packets.{Fields, sent_to}
use Rattle.pipe_base.proofs.BarrierLaws.{barrier-le_register}
use Rattle.pipe_model.specs.declared.event.Event.{Event}
use Rattle.pipe_model.specs.declared.event.Event.TheVariants.{Send}
use Rattle.pipe_model.specs.declared.record.Record.{Record}
use Rattle.pipe_model.specs.Acting.{acts, is_idle, is_own, own}
use Rattle.pipe_model.specs.Duties.{fields}
use Rattle.pipe_model.specs.Event.{IsOfGraph}
use Rattle.pipe_model.specs.Moments.{barrier_at, moments_of, received}
use Rattle.pipe_model.specs.OnLink.{greatest_received}
use Rattle.pipe_model.specs.Run.{IsStep}
use Rattle.pipe_model.specs.Waiting.{waiting_on}
use Rattle.pipe_model.proofs.Own.{own_more}
use Rattle.pipe_model.proofs.Steps.{moments_received}
use Rattle.pipe_model_net.proofs.Acting.{nobodys_or_own, quiet_puts}
use Rattle.pipe_model_net.proofs.Ordered.{AreSettled, IsOrderedStep, IsReceipt, at_head, receipt, received_settled}
use Rattle.pipe_model_net.proofs.Owed.{puts_each}
use Rattle.pipe_model_net.proofs.Settled.{IsAbove, first_above}

-- ---- what a record puts is not below its field

-- a best-effort message is not below the field that it carries
abbrev pub IsTimely : Packet → Type 0
IsTimely p = IsAbove p.be.0 p

host_field : (graph : Graph) (node : ℕ) (o : List Record) (r : Record) (ts : Ts) → is_host graph node ≡ true → r.step.stamped ≡ Some ts → (fields graph node o r).be ≡ ts.0
host_field graph node o r ts host stamp = rw (host, stamp) refl

half_field : (graph : Graph) (node : ℕ) (o : List Record) (r : Record) → is_host graph node ≡ false → (fields graph node o r).be ≡ barrier_at plane.BestEffort graph node (r ∷ o)
half_field graph node o r half = rw half refl

sent_timely : (service : Service) (src : HostId) (ts : Ts) (f : Fields) (d : HostId × List ℕ) → f.be ≡ ts.0 → IsTimely (sent_to service src ts f d)
sent_timely BestEffort src ts f d is plain = omega (arith, is)
sent_timely Reliable src ts f d is plain = cc

sender_is_host : (graph : Graph) (node host : ℕ) → host < graph.hosts → (host == node) ≡ true → is_host graph node ≡ true
sender_is_host graph node host known acting = let same : host ≡ node = eqb-true host node acting in grind (arith, nat_tests, known, same)

-- the barrier of a half after it received a packet is at most what was received on the link of the packet
barrier_after : (graph : Graph) (past : List Record) (r : Record) (node : ℕ) (q : ℕ × Packet) → IsStep graph past r → is_own graph node r ≡ true
    → received graph node (own graph node past) r ≡ Some q → IsReceipt graph past node q
    → barrier_at plane.BestEffort graph node (r ∷ own graph node past) ≤ greatest_received plane.BestEffort graph q.0 (r ∷ past)
barrier_after graph past r node q step mine is at =
    let o : List Record = own graph node past in
    let moments = moments_received graph node o r q (step.node node mine) is in
    let up : is_up (moments_of graph node (r ∷ o)) q.0 ≡ true = subst (λ (ms : List Moment). is_up ms q.0 ≡ true) (sym moments) at.up in
    let same : register plane.BestEffort (moments_of graph node (r ∷ o)) q.0 ≡ greatest_received plane.BestEffort graph q.0 (r ∷ past) =
    ap (λ (x : List Record). register plane.BestEffort (moments_of graph node x) q.0) (sym (own_more graph node r past mine)) ∙ at_head graph (r ∷ past) node q.0 at.head in
    subst (λ (n : ℕ). barrier_at plane.BestEffort graph node (r ∷ o) ≤ n) same
    (barrier-le_register plane.BestEffort (ins_of graph node) (moments_of graph node (r ∷ o)) q.0 at.among up)

-- what a half passes on is not below its barrier
forward_above : (graph : Graph) (past : List Record) (r : Record) (node : ℕ) (q : ℕ × Packet) → IsOrderedStep graph past r → is_own graph node r ≡ true
    → AreSettled graph past → received graph node (own graph node past) r ≡ Some q → is_host graph node ≡ false → IsAbove (fields graph node (own graph node past) r).be q.1
forward_above graph past r node q step mine settled is half plain =
    let o : List Record = own graph node past in
    let at : IsReceipt graph past node q = receipt graph past r node q step mine is in
    let low : barrier_at plane.BestEffort graph node (r ∷ o) ≤ greatest_received plane.BestEffort graph q.0 (r ∷ past) = barrier_after graph past r node q step.rules mine is at in
    let high : greatest_received plane.BestEffort graph q.0 (r ∷ past) ≤ q.1.ts.0 =
    first_above (greatest_received plane.BestEffort graph q.0 (r ∷ past)) (waiting_on q.0 past) q.1 at.first (received_settled graph q.0 past r step (settled q.0)) plain in
    subst (λ (n : ℕ). n ≤ q.1.ts.0) (sym (half_field graph node o r half)) (le_trans low high)

-- a node that sends is a host, so what it sends carries its stamp
sent_now : (graph : Graph) (past : List Record) (r : Record) (node : ℕ) (host : HostId) (service : Service) (now ts : Ts) (dests : List (HostId × List ℕ))
    → IsOrderedStep graph past r → is_own graph node r ≡ true → r.event ≡ Send host service now dests → r.step.stamped ≡ Some ts
    → (d : HostId × List ℕ) → IsTimely (sent_to service host ts (fields graph node (own graph node past) r) d)
sent_now graph past r node host service now ts dests step mine event stamp d =
    let o : List Record = own graph node past in
    let acting : (host.0 == node) ≡ true =
    subst (λ (e : Event). acts graph node e r.took ≡ true) event ((and_parts (acts graph node r.event r.took) (not (is_idle r.step.outcome)) mine).0) in
    let can = subst (IsOfGraph graph) event step.known in
    sent_timely service host ts (fields graph node o r) d (host_field graph node o r ts (sender_is_host graph node host.0 can.host_in acting) stamp)

puts_of_own : (graph : Graph) (past : List Record) (r : Record) (node : ℕ) → IsOrderedStep graph past r → is_own graph node r ≡ true → AreSettled graph past
    → All (λ q. IsTimely q.1) r.step.put
puts_of_own graph past r node step mine settled =
    let o : List Record = own graph node past in
    puts_each IsTimely graph node o r (step.rules.node node mine) (record {
      sent = λ host service now ts dests event stamp d among. sent_now graph past r node host service now ts dests step mine event stamp d;
      resent = λ s among d listed plain. cc;
      recalled = λ s among is d listed plain. cc;
      passed = λ q at half other. forward_above graph past r node q step mine settled at half;
      answered = λ p gets_is host reliable holding plain. cc;
      took_back = λ p gets_is host is plain. cc;
      beacon_too = λ plain. cc;
    })

pub puts_timely : (graph : Graph) (past : List Record) (r : Record) → IsOrderedStep graph past r → AreSettled graph past → All (λ q. IsTimely q.1) r.step.put
puts_timely graph past r step settled =
    elim (nobodys_or_own graph r) [
      | inl quiet ↦ subst (λ (puts : List (LinkId × Packet)). All (λ (q : LinkId × Packet). IsTimely q.1) puts)
          (sym (quiet_puts graph past r step.rules quiet)) (All-nil (λ (q : LinkId × Packet). IsTimely q.1))
      | inr mine ↦ puts_of_own graph past r mine.0 step mine.1 settled
    ]
