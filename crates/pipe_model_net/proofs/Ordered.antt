-- Where a record takes the oldest packet, what it receives was the first that waited, and what waits stays settled.
use Rattle.std.proofs.Common.{◌≡◌, ℕ, ◌<◌, ◌≤◌, max, ◌==◌, not, Bool, true, false, List, ◌∷◌, length, Option, None, Some, refl, sym, subst, ap, ◌∙◌, arith, eqb-true, eq-eqb}
use Rattle.std.specs.List.{slice_get}
use Rattle.std.proofs.lemmas.Bool.{and_parts}
use Rattle.pipe_base.specs.declared.name.LinkId.{LinkId}
use Rattle.pipe_base.specs.declared.packet.Packet.{Packet}
use Rattle.pipe_base.specs.declared.packet.Plane.TheVariants as plane
use Rattle.pipe_base.specs.Barrier.{register}
use Rattle.pipe_graph.specs.Graph.{Graph, head_of, ins_of}
use Rattle.pipe_base.specs.Moment.{has_link, is_up}
use Rattle.pipe_model.specs.declared.event.Event.{Event}
use Rattle.pipe_model.specs.declared.event.Event.TheVariants.{Take}
use Rattle.pipe_model.specs.declared.record.Record.{Record}
use Rattle.pipe_model.specs.declared.record.Took.{Took}
use Rattle.pipe_model.specs.Acting.{acts, is_idle, is_own, own}
use Rattle.pipe_model.specs.Event.{IsOfGraph}
use Rattle.pipe_model.specs.Moments.{moments_of, received}
use Rattle.pipe_model.specs.NeverLate.{IsOfOldest}
use Rattle.pipe_model.specs.OnLink.{greatest_received}
use Rattle.pipe_model.specs.Run.{IsStep}
use Rattle.pipe_model.specs.Waiting.{waiting_on}
use Rattle.pipe_model.proofs.Links.{comes_by}
use Rattle.pipe_model_net.proofs.Receipts.{Receives, ReceivedBelow, receives, received_below}
use Rattle.pipe_model_net.proofs.Settled.{IsSettledBy, settled_first, settled_less}

-- no message that waits on the link is below a field that was received on it or waits before it
abbrev pub IsSettled : Graph → ℕ → List Record → Type 0
IsSettled graph link past = IsSettledBy (greatest_received plane.BestEffort graph link past) (waiting_on link past)

-- all links are settled
abbrev pub AreSettled : Graph → List Record → Type 0
AreSettled graph past = (link : ℕ) → IsSettled graph link past

-- what is asked of a record: the rules, an event of the network, and the oldest packet
pub record IsOrderedStep (graph : Graph) (past : List Record) (r : Record) : Type 0 where
  pub rules : IsStep graph past r
  pub known : IsOfGraph graph r.event
  pub oldest : IsOfOldest r.event

-- ---- a packet that is received was the first that waited

oldest_place : (event : Event) (link : LinkId) (place : ℕ) (keep : Bool) → event ≡ Take link place keep → IsOfOldest event → place ≡ 0
oldest_place event link place keep is oldest = subst IsOfOldest is oldest

received_first : (graph : Graph) (node : ℕ) (past own : List Record) (r : Record) (q : ℕ × Packet) → IsOfOldest r.event → Receives past (moments_of graph node own) r.event q
    → slice_get (waiting_on q.0 past) 0 ≡ Some q.1
received_first graph node past own r q oldest w =
    subst (λ (place : ℕ). slice_get (waiting_on q.0 past) place ≡ Some q.1) (oldest_place r.event w.link w.place w.keep w.event_is oldest) w.waited

-- a node receives this packet from a link into it, which is up and where it was the first
pub record IsReceipt (graph : Graph) (past : List Record) (node : ℕ) (q : ℕ × Packet) : Type 0 where
  pub head : head_of graph q.0 ≡ node
  pub among : has_link q.0 (ins_of graph node) ≡ true
  pub first : slice_get (waiting_on q.0 past) 0 ≡ Some q.1
  pub up : is_up (moments_of graph node (own graph node past)) q.0 ≡ true

taken_at : (graph : Graph) (node : ℕ) (event : Event) (took : Took) (link : LinkId) (place : ℕ) (keep : Bool) → event ≡ Take link place keep
    → acts graph node event took ≡ true → head_of graph link.0 ≡ node
taken_at graph node event took link place keep is acting =
    eqb-true (head_of graph link.0) node (subst (λ (e : Event). acts graph node e took ≡ true) is acting)

pub receipt : (graph : Graph) (past : List Record) (r : Record) (node : ℕ) (q : ℕ × Packet) → IsOrderedStep graph past r → is_own graph node r ≡ true
    → received graph node (own graph node past) r ≡ Some q → IsReceipt graph past node q
receipt graph past r node q step mine is =
    let o : List Record = own graph node past in
    let w = receives graph node past o r q step.rules is in
    let acting : acts graph node r.event r.took ≡ true = (and_parts (acts graph node r.event r.took) (not (is_idle r.step.outcome)) mine).0 in
    let head : head_of graph q.0 ≡ node = ap (head_of graph) (sym w.link_is) ∙ taken_at graph node r.event r.took w.link w.place w.keep w.event_is acting in
    let known : w.link.0 < length graph.links = subst (IsOfGraph graph) w.event_is step.known in
    record {
      head = head;
      among = comes_by graph node q.0 (subst (λ (n : ℕ). n < length graph.links) w.link_is known) (sym head);
      first = received_first graph node past o r q step.oldest w;
      up = w.up;
    }

-- ---- what a record receives keeps the waiting packets settled

by_link : (b : Bool) (graph : Graph) (link : ℕ) (past : List Record) (r : Record) (q : ℕ × Packet) → (q.0 == link) ≡ b
    → received graph (head_of graph link) (own graph (head_of graph link) past) r ≡ Some q → slice_get (waiting_on q.0 past) 0 ≡ Some q.1 → IsSettled graph link past
    → IsSettledBy (greatest_received plane.BestEffort graph link (r ∷ past)) (waiting_on link past)
by_link true graph link past r q on is first settled =
    let bound : ℕ = max (greatest_received plane.BestEffort graph link past) q.1.be.0 in
    let here : slice_get (waiting_on link past) 0 ≡ Some q.1 = subst (λ (l : ℕ). slice_get (waiting_on l past) 0 ≡ Some q.1) (eqb-true q.0 link on) first in
    let below : ReceivedBelow plane.BestEffort link bound (received graph (head_of graph link) (own graph (head_of graph link) past) r) =
    λ p same at. let packet : q.1.be.0 ≡ p.1.be.0 = cc in omega (arith, packet) in
    let more : greatest_received plane.BestEffort graph link (r ∷ past) ≤ bound = received_below plane.BestEffort graph link bound past r (omega arith) below in
    settled_less (greatest_received plane.BestEffort graph link (r ∷ past)) bound (waiting_on link past) more
    (settled_first (greatest_received plane.BestEffort graph link past) (waiting_on link past) q.1 here settled)
by_link false graph link past r q off is first settled =
    let below : ReceivedBelow plane.BestEffort link (greatest_received plane.BestEffort graph link past) (received graph (head_of graph link) (own graph (head_of graph link) past) r) =
    λ p same at. let number : q.0 ≡ p.0 = cc in let never : (q.0 == link) ≡ true = eq-eqb q.0 link (number ∙ at) in cc in
    settled_less (greatest_received plane.BestEffort graph link (r ∷ past)) (greatest_received plane.BestEffort graph link past) (waiting_on link past)
    (received_below plane.BestEffort graph link (greatest_received plane.BestEffort graph link past) past r (omega arith) below) settled

by_receipt : (o : Option (ℕ × Packet)) (graph : Graph) (link : ℕ) (past : List Record) (r : Record) → IsOrderedStep graph past r
    → received graph (head_of graph link) (own graph (head_of graph link) past) r ≡ o → IsSettled graph link past
    → IsSettledBy (greatest_received plane.BestEffort graph link (r ∷ past)) (waiting_on link past)
by_receipt None graph link past r step is settled =
    let below : ReceivedBelow plane.BestEffort link (greatest_received plane.BestEffort graph link past) (received graph (head_of graph link) (own graph (head_of graph link) past) r) = λ p same at. cc in
    settled_less (greatest_received plane.BestEffort graph link (r ∷ past)) (greatest_received plane.BestEffort graph link past) (waiting_on link past)
    (received_below plane.BestEffort graph link (greatest_received plane.BestEffort graph link past) past r (omega arith) below) settled
by_receipt (Some q) graph link past r step is settled =
    let o : List Record = own graph (head_of graph link) past in
    by_link (q.0 == link) graph link past r q refl is (received_first graph (head_of graph link) past o r q step.oldest (receives graph (head_of graph link) past o r q step.rules is)) settled

pub received_settled : (graph : Graph) (link : ℕ) (past : List Record) (r : Record) → IsOrderedStep graph past r → IsSettled graph link past
    → IsSettledBy (greatest_received plane.BestEffort graph link (r ∷ past)) (waiting_on link past)
received_settled graph link past r step settled = by_receipt (received graph (head_of graph link) (own graph (head_of graph link) past) r) graph link past r step refl settled

-- the greatest field received, as the head of the link has it
pub at_head : (graph : Graph) (past : List Record) (node link : ℕ) → head_of graph link ≡ node → register plane.BestEffort (moments_of graph node (own graph node past)) link ≡ greatest_received plane.BestEffort graph link past
at_head graph past node link head = ap (λ (n : ℕ). register plane.BestEffort (moments_of graph n (own graph n past)) link) (sym head)
