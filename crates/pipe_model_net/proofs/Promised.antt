-- Each field that waits on a link or was received on it is at most what the tail of the link promises now.
use Rattle.std.proofs.Common.{◌≡◌, ℕ, ◌≤◌, if◌then◌else◌, Bool, true, false, List, [], ◌∷◌, ◌++◌, Some, subst, arith}
use Rattle.std.specs.List.{All, slice_get}
use Rattle.std.proofs.lemmas.List.Elements.{All-nil, All-append, All-weaker}
use Rattle.pipe_base.specs.declared.packet.Packet.{Packet}
use Rattle.pipe_base.specs.declared.packet.Plane.{Plane}
use Rattle.pipe_graph.specs.Graph.{Graph, head_of}
use Rattle.pipe_model.specs.declared.record.Record.{Record}
use Rattle.pipe_model.specs.Acting.{own}
use Rattle.pipe_model.specs.Moments.{received}
use Rattle.pipe_model.specs.OnLink.{AreFieldsPromised, field, greatest_received, tail_promise}
use Rattle.pipe_model.specs.Run.{IsHistory, IsStep}
use Rattle.pipe_model.specs.Waiting.{is_cut, left_after, put_on, waiting_on}
use Rattle.pipe_model_net.proofs.Packets.{at_place, left_all}
use Rattle.pipe_model_net.proofs.Puts.{IsPutBetween, puts_between, tail_rises}
use Rattle.pipe_model_net.proofs.Receipts.{receives, received_below}

-- the field is at most the bound
abbrev pub FieldBelow : Plane → ℕ → Packet → Type 0
FieldBelow plane bound p = field plane p ≤ bound

-- what was received by a record was at most what the tail promised before it
pub received_promised : (plane : Plane) (graph : Graph) (link : ℕ) (past : List Record) (r : Record) → IsStep graph past r → AreFieldsPromised plane graph link past
    → greatest_received plane graph link (r ∷ past) ≤ tail_promise plane graph link past
received_promised plane graph link past r step before =
    let bound : ℕ = tail_promise plane graph link past in
    let below : (q : ℕ × Packet) → received graph (head_of graph link) (own graph (head_of graph link) past) r ≡ Some q → q.0 ≡ link → field plane q.1 ≤ bound =
    λ q is on.
    let w = receives graph (head_of graph link) past (own graph (head_of graph link) past) r q step is in
    at_place (FieldBelow plane bound) (waiting_on link past) w.place q.1 before.waiting
    (subst (λ (l : ℕ). slice_get (waiting_on l past) w.place ≡ Some q.1) on w.waited) in
    received_below plane graph link bound past r before.received below

chosen : (b : Bool) (P : Packet → Type 0) (ps : List Packet) → All P ps → All P (if b then [] else ps)
chosen true P ps all = All-nil P
chosen false P ps all = all

waiting_promised : (plane : Plane) (graph : Graph) (link : ℕ) (past : List Record) (r : Record) → IsStep graph past r → AreFieldsPromised plane graph link past
    → All (FieldBelow plane (tail_promise plane graph link (r ∷ past))) (waiting_on link (r ∷ past))
waiting_promised plane graph link past r step before =
    let now : ℕ = tail_promise plane graph link (r ∷ past) in
    let puts = puts_between plane graph link past r step in
    let left : List Packet = left_after link r.event r.step.outcome (waiting_on link past) in
    let rises : tail_promise plane graph link past ≤ now = tail_rises plane graph link past r step in
    let stays : (p : Packet) → FieldBelow plane (tail_promise plane graph link past) p → FieldBelow plane now p = λ p low. omega (arith, low, rises) in
    let fresh : (p : Packet) → IsPutBetween plane (tail_promise plane graph link past) now puts.0 p → FieldBelow plane now p = λ p put. omega (arith, put.carries, put.below) in
    chosen (is_cut link (r ∷ past)) (FieldBelow plane now) (left ++ put_on link r.step.put)
    (All-append (FieldBelow plane now) left (put_on link r.step.put)
    (All-weaker (FieldBelow plane (tail_promise plane graph link past)) (FieldBelow plane now) stays left
    (left_all (FieldBelow plane (tail_promise plane graph link past)) link r.event r.step.outcome (waiting_on link past) before.waiting))
    (All-weaker (IsPutBetween plane (tail_promise plane graph link past) now puts.0) (FieldBelow plane now) fresh (put_on link r.step.put) puts.1))

pub fields_promised : (plane : Plane) (graph : Graph) (past : List Record) → IsHistory graph past → (link : ℕ) → AreFieldsPromised plane graph link past
fields_promised plane graph [] run link = record { waiting = All-nil (FieldBelow plane (tail_promise plane graph link [])); received = omega arith }
fields_promised plane graph (r ∷ past) run link =
    let before : AreFieldsPromised plane graph link past = fields_promised plane graph past run.0 link in
    let low : greatest_received plane graph link (r ∷ past) ≤ tail_promise plane graph link past = received_promised plane graph link past r run.1 before in
    let rises : tail_promise plane graph link past ≤ tail_promise plane graph link (r ∷ past) = tail_rises plane graph link past r run.1 in
    record { waiting = waiting_promised plane graph link past r run.1 before; received = omega (arith, low, rises) }
