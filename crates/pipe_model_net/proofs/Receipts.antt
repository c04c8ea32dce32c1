-- What a record receives waited on its link, and what it does to the greatest field received on a link.
use Rattle.std.proofs.Common.{◌≡◌, ℕ, ◌≤◌, max, ◌==◌, ◌&&◌, if◌then◌else◌, Bool, true, false, List, ◌∷◌, Option, None, Some, refl, sym, subst, ap, ◌∙◌, arith, eqb-true}
use Rattle.std.specs.List.{slice_get}
use Rattle.pipe_base.specs.declared.name.LinkId.{LinkId}
use Rattle.pipe_base.specs.declared.packet.Packet.{Packet}
use Rattle.pipe_base.specs.declared.packet.Plane.{Plane}
use Rattle.pipe_base.specs.Barrier.{register}
use Rattle.pipe_graph.specs.Graph.{Graph, head_of, ins_of}
use Rattle.pipe_base.specs.Moment.{Moment, is_up, keeps_links, with_received, with_downed}
use Rattle.pipe_model.specs.declared.event.Event.{Event}
use Rattle.pipe_model.specs.declared.event.Event.TheVariants.{Take}
use Rattle.pipe_model.specs.declared.record.Record.{Record}
use Rattle.pipe_model.specs.declared.record.Took.{Took}
use Rattle.pipe_model.specs.declared.record.Took.TheVariants.{Nothing}
use Rattle.pipe_model.specs.Acting.{is_idle, is_own, own}
use Rattle.pipe_model.specs.Moments.{moments_of, received, received_of, taken_from}
use Rattle.pipe_model.specs.OnLink.{field, greatest_received}
use Rattle.pipe_model.specs.Outcome.{outcome_of, took_at, took_of}
use Rattle.pipe_model.specs.Run.{IsStep}
use Rattle.pipe_model.specs.Waiting.{waiting_on}
use Rattle.pipe_model.proofs.Marks.{register_downed, register_dropped}
use Rattle.pipe_model.proofs.Own.{own_more, own_same}

-- ---- the packet received

-- The record takes the packet at a place of its link, where it waited, and the link is up.
pub record Receives (past : List Record) (moments : List Moment) (event : Event) (q : ℕ × Packet) : Type 0 where
  pub link : LinkId
  pub place : ℕ
  pub keep : Bool
  pub event_is : event ≡ Take link place keep
  pub link_is : link.0 ≡ q.0
  pub waited : slice_get (waiting_on q.0 past) place ≡ Some q.1
  pub up : is_up moments q.0 ≡ true

from_up : (past : List Record) (moments : List Moment) (link : LinkId) (place : ℕ) (keep : Bool) (p : Packet) (q : ℕ × Packet) (same up : Bool)
    → is_up moments link.0 ≡ up → slice_get (waiting_on link.0 past) place ≡ Some p → (if same && up then Some (link.0, p) else None) ≡ Some q
    → Receives past moments (Take link place keep) q
from_up past moments link place keep p q true true up waits is =
    let number : link.0 ≡ q.0 = cc in
    let packet : p ≡ q.1 = cc in
    record {
      link = link;
      place = place;
      keep = keep;
      event_is = refl;
      link_is = number;
      waited = subst (λ (n : ℕ). slice_get (waiting_on n past) place ≡ Some q.1) number (waits ∙ ap (λ (x : Packet). Some x) packet);
      up = subst (λ (n : ℕ). is_up moments n ≡ true) number up;
    }
from_up past moments link place keep p q true false up waits is = cc
from_up past moments link place keep p q false up is_it waits is = cc

from_item : (past : List Record) (moments : List Moment) (link : LinkId) (place : ℕ) (keep idle : Bool) (o : Option Packet) (q : ℕ × Packet)
    → slice_get (waiting_on link.0 past) place ≡ o → taken_from moments link.0 (if idle then Nothing else took_at link o) ≡ Some q
    → Receives past moments (Take link place keep) q
from_item past moments link place keep true o q waits is = cc
from_item past moments link place keep false None q waits is = cc
from_item past moments link place keep false (Some p) q waits is =
    from_up past moments link place keep p q (link.0 == link.0) (is_up moments link.0) refl waits is

by_event : (graph : Graph) (past : List Record) (moments : List Moment) (event : Event) (took : Took) (q : ℕ × Packet) → took ≡ took_of graph past event
    → received_of moments event took ≡ Some q → Receives past moments event q
by_event graph past moments (Take link place keep) took q took_is is =
    from_item past moments link place keep (is_idle (outcome_of graph past (Take link place keep))) (slice_get (waiting_on link.0 past) place) q refl
    (subst (λ (t : Took). taken_from moments link.0 t ≡ Some q) took_is is)
by_event graph past moments _ took q took_is is = cc

pub receives : (graph : Graph) (node : ℕ) (past own : List Record) (r : Record) (q : ℕ × Packet) → IsStep graph past r → received graph node own r ≡ Some q
    → Receives past (moments_of graph node own) r.event q
receives graph node past own r q step is = by_event graph past (moments_of graph node own) r.event r.took q step.took_is is

-- ---- the greatest field received

-- a packet received on the link has at most this field
abbrev pub ReceivedBelow : Plane → ℕ → ℕ → Option (ℕ × Packet) → Type 0
ReceivedBelow plane link bound o = (q : ℕ × Packet) → o ≡ Some q → q.0 ≡ link → field plane q.1 ≤ bound

max_below : (b : Bool) (l link old value bound : ℕ) → (l == link) ≡ b → old ≤ bound → (l ≡ link → value ≤ bound) → (if b then max old value else old) ≤ bound
max_below true l link old value bound is low here = let le : value ≤ bound = here (eqb-true l link is) in omega arith
max_below false l link old value bound is low here = low

register_received : (plane : Plane) (looked : Bool) (o : Option (ℕ × Packet)) (past : List Moment) (link bound : ℕ) → register plane past link ≤ bound
    → ReceivedBelow plane link bound o → register plane (with_received looked o past) link ≤ bound
register_received plane looked None past link bound low below = low
register_received plane true (Some q) past link bound low below =
    max_below (q.0 == link) q.0 link (register plane past link) (field plane q.1) bound refl low (below q refl)
register_received plane false (Some q) past link bound low below =
    max_below (q.0 == link) q.0 link (register plane past link) (field plane q.1) bound refl low (below q refl)

register_more : (graph : Graph) (node : ℕ) (plane : Plane) (own : List Record) (r : Record) (link bound : ℕ) → register plane (moments_of graph node own) link ≤ bound → ReceivedBelow plane link bound (received graph node own r)
    → register plane (moments_of graph node (r ∷ own)) link ≤ bound
register_more graph node plane own r link bound low below =
    let before : List Moment = with_received (keeps_links r.step.downed r.step.dropped) (received graph node own r) (moments_of graph node own) in
    let same : register plane (moments_of graph node (r ∷ own)) link ≡ register plane before link =
    register_dropped (ins_of graph node) plane r.step.dropped (with_downed r.step.downed before) link ∙ register_downed plane r.step.downed before link in
    subst (λ (n : ℕ). n ≤ bound) (sym same) (register_received plane (keeps_links r.step.downed r.step.dropped) (received graph node own r) (moments_of graph node own) link bound low below)

more_received : (b : Bool) (plane : Plane) (graph : Graph) (link bound : ℕ) (past : List Record) (r : Record) → is_own graph (head_of graph link) r ≡ b
    → greatest_received plane graph link past ≤ bound → ReceivedBelow plane link bound (received graph (head_of graph link) (own graph (head_of graph link) past) r)
    → greatest_received plane graph link (r ∷ past) ≤ bound
more_received true plane graph link bound past r is low below =
    subst (λ (o : List Record). register plane (moments_of graph (head_of graph link) o) link ≤ bound) (sym (own_more graph (head_of graph link) r past is))
    (register_more graph (head_of graph link) plane (own graph (head_of graph link) past) r link bound low below)
more_received false plane graph link bound past r isnt low below =
    subst (λ (o : List Record). register plane (moments_of graph (head_of graph link) o) link ≤ bound) (sym (own_same graph (head_of graph link) r past isnt)) low

-- what bounds the greatest field before the record and what it receives, bounds it after the record
pub received_below : (plane : Plane) (graph : Graph) (link bound : ℕ) (past : List Record) (r : Record) → greatest_received plane graph link past ≤ bound
    → ReceivedBelow plane link bound (received graph (head_of graph link) (own graph (head_of graph link) past) r)
    → greatest_received plane graph link (r ∷ past) ≤ bound
received_below plane graph link bound past r low below = more_received (is_own graph (head_of graph link) r) plane graph link bound past r refl low below
