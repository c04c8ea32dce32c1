-- The marks of a node: a link that is marked is down and its mark is its commit register, now and later; one that is kept and
-- has no mark is up.
use Rattle.std.proofs.Common.{◌≡◌, ℕ, ◌==◌, ◌&&◌, cond, if◌then◌else◌, Bool, true, false, List, [], ◌∷◌, ◌++◌, Option, None, Some, filter, refl, sym, subst, ap, ◌∙◌, eqb-true}
use Rattle.std.specs.List.{All}
use Rattle.std.specs.Map.{lookup}
use Rattle.std.specs.Option.{option_or}
use Rattle.std.proofs.lemmas.List.Elements.{All-nil, All-cons, All-head, All-tail, All-map}
use Rattle.pipe_base.specs.declared.control.Control.{Control}
use Rattle.pipe_base.specs.declared.control.Control.TheVariants.{Freeze}
use Rattle.pipe_base.specs.declared.name.LinkId.{LinkId}
use Rattle.pipe_base.specs.declared.name.Ts.{Ts}
use Rattle.pipe_base.specs.declared.packet.Packet.{Packet}
use Rattle.pipe_base.specs.declared.packet.Plane.{Plane}
use Rattle.pipe_base.specs.declared.packet.Plane.TheVariants.{Commit}
use Rattle.pipe_base.specs.Barrier.{register}
use Rattle.pipe_graph.specs.Graph.{Graph, ins_of}
use Rattle.pipe_base.specs.Moment.{Moment, WentDown, Dropped, has_link, is_retained, is_up, keeps_links, with_received, with_downed}
use Rattle.pipe_base.specs.Entries.{with_entries}
use Rattle.pipe_base.specs.Silence.{goes_down, mark_of}
use Rattle.pipe_model.specs.declared.event.Event.{Event}
use Rattle.pipe_model.specs.declared.event.Event.TheVariants.{ControlTake, Take, Tick}
use Rattle.pipe_model.specs.declared.record.Record.{Record}
use Rattle.pipe_model.specs.declared.record.Took.{Took}
use Rattle.pipe_model.specs.declared.record.Took.TheVariants.{Link, Message}
use Rattle.pipe_model.specs.Marks.{downed, downed_by, mark, marks, told_marks}
use Rattle.pipe_model.specs.Moments.{moments_of, quiet_calls, received, received_of, taken_from}
use Rattle.pipe_model.specs.Run.{IsNodeHistory}
use Rattle.pipe_model.proofs.Steps.{receipt_marks_nothing}

-- ---- what a step does to the registers

pub register_downed : (plane : Plane) (ds : List (LinkId × Ts)) (past : List Moment) (link : ℕ) → register plane (with_downed ds past) link ≡ register plane past link
register_downed plane [] past link = refl
register_downed plane (d ∷ ds) past link = register_downed plane ds (WentDown d.0.0 ∷ past) link

pub register_dropped : (ins : List LinkId) (plane : Plane) (ls : List LinkId) (past : List Moment) (link : ℕ) → register plane (with_entries ins ls past) link ≡ register plane past link
register_dropped ins plane [] past link = refl
register_dropped ins plane (l ∷ ls) past link = register_dropped ins plane ls (Dropped l.0 ∷ past) link

-- ---- what it does to the use of a link

pub up_received : (looked : Bool) (o : Option (ℕ × Packet)) (past : List Moment) (link : ℕ) → is_up (with_received looked o past) link ≡ is_up past link
up_received looked None past link = refl
up_received true (Some q) past link = refl
up_received false (Some q) past link = refl

pub kept_received : (looked : Bool) (o : Option (ℕ × Packet)) (past : List Moment) (link : ℕ) → is_retained (with_received looked o past) link ≡ is_retained past link
kept_received looked None past link = refl
kept_received true (Some q) past link = refl
kept_received false (Some q) past link = refl

pub kept_downed : (ds : List (LinkId × Ts)) (past : List Moment) (link : ℕ) → is_retained (with_downed ds past) link ≡ is_retained past link
kept_downed [] past link = refl
kept_downed (d ∷ ds) past link = kept_downed ds (WentDown d.0.0 ∷ past) link

stays_false : (b c : Bool) → c ≡ false → (if b then false else c) ≡ false
stays_false true c is = refl
stays_false false c is = is

-- a link that is not up never is again
pub down_downed : (ds : List (LinkId × Ts)) (past : List Moment) (link : ℕ) → is_up past link ≡ false → is_up (with_downed ds past) link ≡ false
down_downed [] past link down = down
down_downed (d ∷ ds) past link down = down_downed ds (WentDown d.0.0 ∷ past) link (stays_false (d.0.0 == link) (is_up past link) down)

pub down_dropped : (ins : List LinkId) (ls : List LinkId) (past : List Moment) (link : ℕ) → is_up past link ≡ false → is_up (with_entries ins ls past) link ≡ false
down_dropped ins [] past link down = down
down_dropped ins (l ∷ ls) past link down = down_dropped ins ls (Dropped l.0 ∷ past) link (stays_false (l.0 == link) (is_up past link) down)

-- a link that is not up is not up after a record
pub down_still : (graph : Graph) (node : ℕ) (own : List Record) (r : Record) (link : ℕ) → is_up (moments_of graph node own) link ≡ false → is_up (moments_of graph node (r ∷ own)) link ≡ false
down_still graph node own r link down =
    let looked : Bool = keeps_links r.step.downed r.step.dropped in
    let received_too : List Moment = with_received looked (received graph node own r) (moments_of graph node own) in
    down_dropped (ins_of graph node) r.step.dropped (with_downed r.step.downed received_too) link
    (down_downed r.step.downed received_too link (up_received looked (received graph node own r) (moments_of graph node own) link ∙ down))

-- a link that is listed goes down, one that is not stays up
abbrev pub beside : ℕ → List (LinkId × Ts) → Option Ts
beside link ds = lookup (λ l. l.0 == link) ds

down_marked : (ds : List (LinkId × Ts)) (past : List Moment) (link : ℕ) (value : Ts) → beside link ds ≡ Some value → is_up (with_downed ds past) link ≡ false
down_marked [] past link value is = cc
down_marked (d ∷ ds) past link value is = by (d.0.0 == link) refl is (down_marked ds (WentDown d.0.0 ∷ past) link value)
  where
    by : (b : Bool) → (d.0.0 == link) ≡ b → cond b (Some d.1) (beside link ds) ≡ Some value
        → (beside link ds ≡ Some value → is_up (with_downed ds (WentDown d.0.0 ∷ past)) link ≡ false) → is_up (with_downed ds (WentDown d.0.0 ∷ past)) link ≡ false
    by true here found later = down_downed ds (WentDown d.0.0 ∷ past) link (rw here refl)
    by false other found later = later found

up_unmarked : (ds : List (LinkId × Ts)) (past : List Moment) (link : ℕ) → beside link ds ≡ None → is_up past link ≡ true → is_up (with_downed ds past) link ≡ true
up_unmarked [] past link is up = up
up_unmarked (d ∷ ds) past link is up = by (d.0.0 == link) refl is (up_unmarked ds (WentDown d.0.0 ∷ past) link)
  where
    by : (b : Bool) → (d.0.0 == link) ≡ b → cond b (Some d.1) (beside link ds) ≡ None
        → (beside link ds ≡ None → is_up (WentDown d.0.0 ∷ past) link ≡ true → is_up (with_downed ds (WentDown d.0.0 ∷ past)) link ≡ true)
        → is_up (with_downed ds (WentDown d.0.0 ∷ past)) link ≡ true
    by true here found later = cc
    by false other found later = later found (rw other up)

before_drop : (b c : Bool) → (if b then false else c) ≡ true → (b ≡ false) × (c ≡ true)
before_drop true c is = cc
before_drop false c is = (refl, is)

kept_before : (ins : List LinkId) (ls : List LinkId) (past : List Moment) (link : ℕ) → is_retained (with_entries ins ls past) link ≡ true → is_retained past link ≡ true
kept_before ins [] past link kept = kept
kept_before ins (l ∷ ls) past link kept = (before_drop (l.0 == link) (is_retained past link) (kept_before ins ls (Dropped l.0 ∷ past) link kept)).1

up_kept : (ins : List LinkId) (ls : List LinkId) (past : List Moment) (link : ℕ) → is_retained (with_entries ins ls past) link ≡ true → is_up past link ≡ true → is_up (with_entries ins ls past) link ≡ true
up_kept ins [] past link kept up = up
up_kept ins (l ∷ ls) past link kept up =
    let other : (l.0 == link) ≡ false = (before_drop (l.0 == link) (is_retained past link) (kept_before ins ls (Dropped l.0 ∷ past) link kept)).0 in
    up_kept ins ls (Dropped l.0 ∷ past) link kept (rw other up)

-- ---- what is received came on a link that is up

from_up : (same up : Bool) (link : ℕ) (p : Packet) (q : ℕ × Packet) (past : List Moment) → is_up past link ≡ up → (if same && up then Some (link, p) else None) ≡ Some q
    → is_up past q.0 ≡ true
from_up true true link p q past up is = let number : link ≡ q.0 = cc in subst (λ (n : ℕ). is_up past n ≡ true) number up
from_up true false link p q past up is = cc
from_up false up link p q past is_it is = cc

up_taken : (past : List Moment) (link : ℕ) (took : Took) (q : ℕ × Packet) → taken_from past link took ≡ Some q → is_up past q.0 ≡ true
up_taken past link (Link l p) q is = from_up (l.0 == link) (is_up past link) link p q past refl is
up_taken past link _ q is = cc

pub received_up : (past : List Moment) (event : Event) (took : Took) (q : ℕ × Packet) → received_of past event took ≡ Some q → is_up past q.0 ≡ true
received_up past (Take link place keep) took q is = up_taken past link.0 took q is
received_up past _ took q is = cc

-- so the register of a link that is not up stands still
register_still : (looked : Bool) (o : Option (ℕ × Packet)) (past : List Moment) (link : ℕ) → ((q : ℕ × Packet) → o ≡ Some q → is_up past q.0 ≡ true) → is_up past link ≡ false
    → register Commit (with_received looked o past) link ≡ register Commit past link
register_still looked None past link up down = refl
register_still looked (Some q) past link up down = by (q.0 == link) looked refl
  where
    by : (b t : Bool) → (q.0 == link) ≡ b → register Commit (with_received t (Some q) past) link ≡ register Commit past link
    by true t here = let never : is_up past link ≡ true = ap (is_up past) (sym (eqb-true q.0 link here)) ∙ up q refl in cc
    by false true other = rw other refl
    by false false other = rw other refl

-- ---- the value of a mark

-- the value is the commit register of the link
abbrev pub IsRegister : List Moment → (LinkId × Ts) → Type 0
IsRegister moments d = d.1.0 ≡ register Commit moments d.0.0

register_told : (ins : List LinkId) (moments : List Moment) (c : Control) → All (IsRegister moments) (told_marks ins moments c)
register_told ins moments (Freeze l) = by (has_link l.0 ins && is_up moments l.0)
  where
    by : (b : Bool) → All (IsRegister moments) (if b then mark_of moments l ∷ [] else [])
    by true = All-cons (IsRegister moments) (mark_of moments l) [] refl (All-nil (IsRegister moments))
    by false = All-nil (IsRegister moments)
register_told ins moments _ = All-nil (IsRegister moments)

registers_by : (graph : Graph) (node : ℕ) (own : List Record) (event : Event) (took : Took) → All (IsRegister (moments_of graph node own)) (downed_by graph node own event took)
registers_by graph node own (Tick n now) took =
    All-map (IsRegister (moments_of graph node own)) (mark_of (moments_of graph node own)) (filter (goes_down graph.patience (moments_of graph node own) (quiet_calls graph node own) now.0) (ins_of graph node)) (λ k d lt. refl)
registers_by graph node own (ControlTake place keep) (Message a) = register_told (ins_of graph node) (moments_of graph node own) a.control
registers_by graph node own _ _ = All-nil (IsRegister (moments_of graph node own))

-- each link that goes down in a record goes with its commit register
pub downed_registers : (graph : Graph) (node : ℕ) (own : List Record) (r : Record) → All (IsRegister (moments_of graph node own)) (downed graph node own r)
downed_registers graph node own r = registers_by graph node own r.event r.took

value_found : (moments : List Moment) (ds : List (LinkId × Ts)) (link : ℕ) (value : Ts) → All (IsRegister moments) ds → beside link ds ≡ Some value
    → register Commit moments link ≡ value.0
value_found moments [] link value all is = cc
value_found moments (d ∷ ds) link value all is =
    by (d.0.0 == link) refl is (value_found moments ds link value (All-tail (IsRegister moments) d ds all))
  where
    by : (b : Bool) → (d.0.0 == link) ≡ b → cond b (Some d.1) (beside link ds) ≡ Some value → (beside link ds ≡ Some value → register Commit moments link ≡ value.0)
        → register Commit moments link ≡ value.0
    by true here found later =
        let same : d.1 ≡ value = cc in
        ap (register Commit moments) (sym (eqb-true d.0.0 link here)) ∙ sym (All-head (IsRegister moments) d ds all) ∙ ap (λ (ts : Ts). ts.0) same
    by false other found later = later found

-- ---- marks along a node's own records

lookup_both : (link : ℕ) (ms ds : List (LinkId × Ts)) → beside link (ms ++ ds) ≡ option_or (beside link ms) (beside link ds)
lookup_both link [] ds = refl
lookup_both link (m ∷ ms) ds = by (m.0.0 == link) (lookup_both link ms ds)
  where
    by : (b : Bool) → beside link (ms ++ ds) ≡ option_or (beside link ms) (beside link ds)
        → cond b (Some m.1) (beside link (ms ++ ds)) ≡ option_or (cond b (Some m.1) (beside link ms)) (beside link ds)
    by true later = refl
    by false later = later

still_some : (old new : Option Ts) (value : Ts) → old ≡ Some value → option_or old new ≡ Some value
still_some None new value is = cc
still_some (Some v) new value is = is

-- a mark stays
pub mark_stays : (own : List Record) (r : Record) (link : ℕ) (value : Ts) → mark own link ≡ Some value → mark (r ∷ own) link ≡ Some value
mark_stays own r link value is = lookup_both link (marks own) r.step.downed ∙ still_some (mark own link) (beside link r.step.downed) value is

-- what the mark of a link says of it
abbrev pub IsMarkedBy : List Moment → ℕ → Option Ts → Type 0
IsMarkedBy moments link None = is_retained moments link ≡ true → is_up moments link ≡ true
IsMarkedBy moments link (Some value) = (is_up moments link ≡ false) × (register Commit moments link ≡ value.0)

no_receipt : (o : Option (ℕ × Packet)) (ds : List (LinkId × Ts)) (link : ℕ) (value : Ts) → ((q : ℕ × Packet) → o ≡ Some q → ds ≡ []) → beside link ds ≡ Some value → o ≡ None
no_receipt None ds link value apart is = refl
no_receipt (Some q) ds link value apart is = let none : beside link ds ≡ None = ap (beside link) (apart q refl) in cc

marked_by : (ins : List LinkId) (before : List Moment) (ds : List (LinkId × Ts)) (link : ℕ) (looked : Bool) (o : Option (ℕ × Packet)) (drops : List LinkId)
    → ((q : ℕ × Packet) → o ≡ Some q → is_up before q.0 ≡ true) → ((q : ℕ × Packet) → o ≡ Some q → ds ≡ []) → All (IsRegister before) ds
    → (old new : Option Ts) → beside link ds ≡ new → IsMarkedBy before link old
    → IsMarkedBy (with_entries ins drops (with_downed ds (with_received looked o before))) link (option_or old new)
marked_by ins before ds link looked o drops up apart registers (Some value) new found old =
    let received : List Moment = with_received looked o before in (
      down_dropped ins drops (with_downed ds received) link (down_downed ds received link (up_received looked o before link ∙ old.0)),
      register_dropped ins Commit drops (with_downed ds received) link ∙ register_downed Commit ds received link ∙ register_still looked o before link up old.0 ∙ old.1,
    )
marked_by ins before ds link looked o drops up apart registers None (Some value) found old =
    let received : List Moment = with_received looked o before in
    let none : o ≡ None = no_receipt o ds link value apart found in (
      down_dropped ins drops (with_downed ds received) link (down_marked ds received link value found),
      register_dropped ins Commit drops (with_downed ds received) link ∙ register_downed Commit ds received link
          ∙ ap (λ (x : Option (ℕ × Packet)). register Commit (with_received looked x before) link) none ∙ value_found before ds link value registers found,
    )
marked_by ins before ds link looked o drops up apart registers None None found old =
    λ kept.
    let received : List Moment = with_received looked o before in
    let kept_then : is_retained before link ≡ true = sym (kept_downed ds received link ∙ kept_received looked o before link) ∙ kept_before ins drops (with_downed ds received) link kept in
    up_kept ins drops (with_downed ds received) link kept (up_unmarked ds received link found (up_received looked o before link ∙ old kept_then))

-- what the mark of a link says of it after a record, where it said so before: it's enough that the record takes down what it is to
pub mark_follows : (graph : Graph) (node : ℕ) (own : List Record) (r : Record) (link : ℕ) → r.step.downed ≡ downed graph node own r
    → IsMarkedBy (moments_of graph node own) link (mark own link) → IsMarkedBy (moments_of graph node (r ∷ own)) link (mark (r ∷ own) link)
mark_follows graph node own r link downed_is before =
    let ds : List (LinkId × Ts) = r.step.downed in
    subst (IsMarkedBy (moments_of graph node (r ∷ own)) link) (sym (lookup_both link (marks own) ds))
    (marked_by (ins_of graph node) (moments_of graph node own) ds link (keeps_links ds r.step.dropped) (received graph node own r) r.step.dropped (λ q is. received_up (moments_of graph node own) r.event r.took q is)
    (λ q is. downed_is ∙ receipt_marks_nothing graph node own r q is)
    (subst (All (IsRegister (moments_of graph node own))) (sym downed_is) (downed_registers graph node own r)) (mark own link) (beside link ds) refl before)

-- whatever a node is handed, the mark of a link tells its use and its commit register
pub marked : (graph : Graph) (node : ℕ) (own : List Record) → IsNodeHistory graph node own → (link : ℕ) → IsMarkedBy (moments_of graph node own) link (mark own link)
marked graph node [] history link = λ kept. refl
marked graph node (r ∷ own) history link = mark_follows graph node own r link history.1.downed_is (marked graph node own history.0 link)

frozen_by_mark : (moments : List Moment) (link : ℕ) (o : Option Ts) (value : Ts) → o ≡ Some value → IsMarkedBy moments link o → register Commit moments link ≡ value.0
frozen_by_mark moments link None value is by = cc
frozen_by_mark moments link (Some v) value is by = let same : v ≡ value = cc in by.1 ∙ ap (λ (ts : Ts). ts.0) same

-- where a link is marked, its commit register is its mark
pub mark_is_frozen : (graph : Graph) (node : ℕ) (own : List Record) (link : ℕ) (value : Ts) → IsNodeHistory graph node own → mark own link ≡ Some value
    → register Commit (moments_of graph node own) link ≡ value.0
mark_is_frozen graph node own link value history is = frozen_by_mark (moments_of graph node own) link (mark own link) value is (marked graph node own history link)
