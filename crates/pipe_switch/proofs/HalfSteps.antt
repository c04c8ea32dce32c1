-- That the steps of a half are what it owes.
use Rattle.std.proofs.Common.{◌≡◌, ℕ, ◌&&◌, nat_lt, length, if◌then◌else◌, Bool, true, false, List, [], ◌∷◌, ◌++◌, map, filter, Option, None, Some, refl, sym, subst, ap, ap₂, ◌∙◌, append-nil, zero-add}
use Rattle.pipe_base.specs.declared.control.Addressed.{Addressed}
use Rattle.pipe_base.specs.declared.control.Announced.{Announced}
use Rattle.pipe_base.specs.declared.control.Control.{Control}
use Rattle.pipe_base.specs.declared.control.Control.TheVariants.{Gone}
use Rattle.pipe_base.specs.declared.control.To.TheVariants.{Controller}
use Rattle.pipe_base.specs.declared.name.LinkId.{LinkId}
use Rattle.pipe_base.specs.declared.name.NodeId.{NodeId}
use Rattle.pipe_base.specs.declared.name.Ts.{Ts}
use Rattle.pipe_base.specs.declared.packet.Packet.{Packet}
use Rattle.pipe_base.specs.declared.packet.Plane.TheVariants as plane
use Rattle.pipe_base.specs.declared.step.Outcome.TheVariants.{Ok, Ignored}
use Rattle.pipe_base.specs.declared.step.Step.{Step}
use Rattle.pipe_base.specs.Barrier.{barrier}
use Rattle.pipe_graph.specs.Graph.{Graph, ins_of, is_half, is_host, outs_of}
use Rattle.pipe_base.specs.Moment.{Moment, Received, is_up, with_received, with_downed}
use Rattle.pipe_base.specs.Packets.{Fields, beacon}
use Rattle.pipe_base.specs.Resends.{resends}
use Rattle.pipe_graph.specs.ShortestRoute.{route}
use Rattle.pipe_graph.specs.Passable.{is_passable}
use Rattle.pipe_base.specs.Silence.{silent_marks}
use Rattle.pipe_base.specs.Step.{quiet_step}
use Rattle.pipe_base.specs.Ways.{lost, routed, with_beacons, with_ways}
use Rattle.pipe_barrier.specs.declared.registers.Barriers.{Barriers}
use Rattle.pipe_barrier.specs.Registers.{AreBarriers, downs}
use Rattle.pipe_links.proofs.Follows.{ready}
use Rattle.pipe_links.proofs.Tells.{tells_marks}
use Rattle.pipe_model.specs.declared.record.Record.{Record}
use Rattle.pipe_links.specs.Ways.{outs_left}
use Rattle.pipe_model.specs.Duties.{beacons, done_told, downs_told, fields, gone_told, owed_by_half, owed_by_host, owed_by_take, owed_by_tick}
use Rattle.pipe_model.specs.Got.{gets, is_beacon}
use Rattle.pipe_model.specs.Marks.{newly_noted, noted_by, told_drops, told_marks}
use Rattle.pipe_model.specs.Moments.{barrier_at, known_drops, moments_of, noted_hosts, quiet_calls, received}
use Rattle.pipe_model.specs.Run.{IsNodeHistory, IsNodeStep}
use Rattle.pipe_model.specs.Sender.{sender_calls}
use Rattle.pipe_model.proofs.Steps.{no_fate, no_host, no_log, taken_ignored, taken_received}
use Rattle.pipe_switch.specs.declared.half.Half.{Half}
use Rattle.pipe_switch.specs.Half.{Stands, Works, passed_on}
use Rattle.pipe_model.specs.Records.{told, taken, ticked}

-- whether the link is up, from what the walk over the in-links tells
pub up_from : (told known up : Bool) → told ≡ (known && up) → known ≡ true → up ≡ told
up_from told true up is known = sym is
up_from told false up is known = cc

ok_where_up : (b : Bool) → b ≡ true → Ok ≡ (if b then Ok else Ignored)
ok_where_up true is = refl
ok_where_up false is = cc

ignored_where_down : (b : Bool) → b ≡ false → Ignored ≡ (if b then Ok else Ignored)
ignored_where_down true is = cc
ignored_where_down false is = refl

chosen : {A : Type 0} (t : Bool) (x y : A) → t ≡ false → (if t then x else y) ≡ y
chosen true x y is = cc
chosen false x y is = refl

-- the fields of a half are its barriers
half_fields : (t : Bool) (f : Fields) (be commit : ℕ) (b : Barriers) → t ≡ false → be ≡ b.be.0 → commit ≡ b.commit.0
    → (if t then f else record { be = be; commit = commit }) ≡ record { be = b.be.0; commit = b.commit.0 }
half_fields true f be commit b other be_is commit_is = cc
half_fields false f be commit b other be_is commit_is = cc

fields_are : (graph : Graph) (node : ℕ) (own : List Record) (r : Record) (moments : List Moment) (b : Barriers) → is_half graph node ≡ true
    → moments_of graph node (r ∷ own) ≡ moments → AreBarriers (ins_of graph node) moments b → fields graph node own r ≡ record { be = b.be.0; commit = b.commit.0 }
fields_are graph node own r moments b half moments_are are =
    half_fields (is_host graph node) _ (barrier_at plane.BestEffort graph node (r ∷ own)) (barrier_at plane.Commit graph node (r ∷ own)) b (no_host graph node half)
    (ap (barrier plane.BestEffort (ins_of graph node)) moments_are ∙ sym are.be_is)
    (ap (barrier plane.Commit (ins_of graph node)) moments_are ∙ sym are.commit_is)

-- a half owes what it received, but no beacon
owed_at_half : (graph : Graph) (node : ℕ) (own : List Record) (r : Record) (f : Fields) → is_half graph node ≡ true → owed_by_take graph node f own r ≡ owed_by_half f (received graph node own r)
owed_at_half graph node own r f half =
    chosen {A = List Packet} (is_host graph node) (owed_by_host node f r.step.fate (gets graph node own r)) (owed_by_half f (received graph node own r)) (no_host graph node half)

-- a half notes no failed host
notes_none : (graph : Graph) (node : ℕ) (own : List Record) (r : Record) → is_half graph node ≡ true → [] ≡ newly_noted graph node own r
notes_none graph node own r half = sym (chosen {A = List Announced} (is_host graph node) (noted_by (noted_hosts own) r.event r.took) [] (no_host graph node half))

-- a packet on a link that is not up
pub ignores : (graph : Graph) (node : ℕ) (own : List Record) (link : LinkId) (p : Packet) (place : ℕ) (keep : Bool) → is_half graph node ≡ true
    → is_up (moments_of graph node own) link.0 ≡ false → IsNodeStep graph node own (taken link p place keep (quiet_step Ignored))
ignores graph node own link p place keep half down =
    let r : Record = taken link p place keep (quiet_step Ignored) in
    let none : received graph node own r ≡ None = taken_ignored (moments_of graph node own) link p place keep down in
    let f : Fields = fields graph node own r in
    let owes : owed_by_take graph node f own r ≡ [] = owed_at_half graph node own r f half ∙ ap (owed_by_half f) none in
    record {
      outcome_is = ignored_where_down (is_up (moments_of graph node own) link.0) down;
      downed_is = refl;
      dropped_is = refl;
      noted_is = notes_none graph node own r half;
      stamped_is = refl;
      fate_is = no_fate graph node own r (no_host graph node half);
      logged_is = no_log graph node own r (no_host graph node half);
      put_is =
          sym (append-nil (routed (route graph (known_drops (r ∷ own)) node) (owed_by_take graph node f own r)) ∙ ap (routed (route graph (known_drops (r ∷ own)) node)) owes);
      unrouted_is = ap (lost (route graph (known_drops (r ∷ own)) node)) (sym owes);
      control_is = refl;
    }

-- a packet that is received and goes on
pub passes : (graph : Graph) (node : ℕ) (own : List Record) (link : LinkId) (p : Packet) (place : ℕ) (keep : Bool) (b : Barriers) (step : Step) → is_half graph node ≡ true
    → is_up (moments_of graph node own) link.0 ≡ true → AreBarriers (ins_of graph node) (Received link.0 p.be.0 p.commit.0 ∷ moments_of graph node own) b
    → step ≡ with_ways (route graph (known_drops own) node) (passed_on b p) (quiet_step Ok) → IsNodeStep graph node own (taken link p place keep step)
passes graph node own link p place keep b step half up are step_is =
    let s : Step = with_ways (route graph [] node) (passed_on b p) (quiet_step Ok) in
    let r : Record = taken link p place keep s in
    let f : Fields = record { be = b.be.0; commit = b.commit.0 } in
    let got : received graph node own r ≡ Some (link.0, p) = taken_received (moments_of graph node own) link p place keep up in
    let moments_are : moments_of graph node (r ∷ own) ≡ Received link.0 p.be.0 p.commit.0 ∷ moments_of graph node own =
    ap (λ (o : Option (ℕ × Packet)). with_received true o (moments_of graph node own)) got in
    let fields_is : fields graph node own r ≡ f = fields_are graph node own r (Received link.0 p.be.0 p.commit.0 ∷ moments_of graph node own) b half moments_are are in
    let drops_now : known_drops (r ∷ own) ≡ known_drops own = append-nil (known_drops own) in
    let owes : owed_by_take graph node (fields graph node own r) own r ≡ passed_on b p =
    owed_at_half graph node own r (fields graph node own r) half ∙ ap (owed_by_half (fields graph node own r)) got ∙ ap (λ (g : Fields). owed_by_half g (Some (link.0, p))) fields_is in
    subst (λ (x : Step). IsNodeStep graph node own (taken link p place keep x)) (sym step_is)
    (record {
      outcome_is = ok_where_up (is_up (moments_of graph node own) link.0) up;
      downed_is = refl;
      dropped_is = refl;
      noted_is = notes_none graph node own r half;
      stamped_is = refl;
      fate_is = no_fate graph node own r (no_host graph node half);
      logged_is = no_log graph node own r (no_host graph node half);
      put_is =
          sym (append-nil (routed (route graph (known_drops (r ∷ own)) node) (owed_by_take graph node (fields graph node own r) own r))
          ∙ ap (λ (ls : List LinkId). routed (route graph ls node) (owed_by_take graph node (fields graph node own r) own r)) drops_now
          ∙ ap (routed (route graph (known_drops own) node)) owes);
      unrouted_is =
          zero-add (lost (route graph (known_drops own) node) (passed_on b p))
          ∙ sym (ap (λ (ls : List LinkId). lost (route graph ls node) (owed_by_take graph node (fields graph node own r) own r)) drops_now
          ∙ ap (lost (route graph (known_drops own) node)) owes);
      control_is = refl;
    })

none_where : (t : Bool) (ps : List Packet) → t ≡ true → [] ≡ (if t then [] else ps)
none_where true ps is = refl
none_where false ps is = cc

-- a beacon that is received goes no further
pub stops : (graph : Graph) (node : ℕ) (own : List Record) (link : LinkId) (p : Packet) (place : ℕ) (keep : Bool) (step : Step) → is_half graph node ≡ true
    → is_up (moments_of graph node own) link.0 ≡ true → is_beacon p.kind ≡ true → step ≡ quiet_step Ok → IsNodeStep graph node own (taken link p place keep step)
stops graph node own link p place keep step half up beacon step_is =
    let moments : List Moment = Received link.0 p.be.0 p.commit.0 ∷ moments_of graph node own in
    let b : Barriers = record {
      be = record { 0 = barrier plane.BestEffort (ins_of graph node) moments };
      commit = record { 0 = barrier plane.Commit (ins_of graph node) moments };
    } in
    passes graph node own link p place keep b step half up (record { be_is = refl; commit_is = refl })
    (step_is ∙ ap (λ (ps : List Packet). with_ways (route graph (known_drops own) node) ps (quiet_step Ok)) (none_where (is_beacon p.kind) _ beacon))

-- what is told of so many dropped links
abbrev gone_of : ℕ → List LinkId → List Addressed
gone_of node known = if nat_lt 0 (length known) then record { to = Controller; control = Gone (record { 0 = node }) (length known) } ∷ [] else []

-- a half is never done
done_none : (host more : Bool) (told : Addressed) → host ≡ false → (if host && more then told ∷ [] else []) ≡ []
done_none true more told is = cc
done_none false more told is = refl

-- a tick
pub ticks : (graph : Graph) (node : NodeId) (own : List Record) (now : Ts) (marks : List (LinkId × Ts)) (tells all : List Addressed) (b : Barriers) (step : Step)
    → is_half graph node.0 ≡ true → IsNodeHistory graph node.0 own
    → marks ≡ silent_marks graph.patience (ins_of graph node.0) (moments_of graph node.0 own) (quiet_calls graph node.0 own) now.0
    → tells ≡ downs (ins_of graph node.0) (with_downed marks (moments_of graph node.0 own)) → all ≡ tells ++ gone_told node.0 own
    → AreBarriers (ins_of graph node.0) (with_downed marks (moments_of graph node.0 own)) b
    → step ≡ with_beacons (outs_left graph node.0 (known_drops own)) (record { be = b.be.0; commit = b.commit.0 }) (record (quiet_step Ok) { downed = marks; control = all })
    → IsNodeStep graph node.0 own (ticked node now step)
ticks graph node own now marks tells all b step half history marks_are tells_are all_are are step_is =
    let f : Fields = record { be = b.be.0; commit = b.commit.0 } in
    let s : Step = with_beacons (outs_left graph node.0 (known_drops own)) f (record (quiet_step Ok) { downed = marks; control = all }) in
    let r : Record = ticked node now s in
    let fields_is : fields graph node.0 own r ≡ f = fields_are graph node.0 own r (with_downed marks (moments_of graph node.0 own)) b half refl are in
    let drops_now : known_drops (r ∷ own) ≡ known_drops own = append-nil (known_drops own) in
    let done : done_told graph node.0 (r ∷ own) ≡ [] = done_none (is_host graph node.0) _ _ (no_host graph node.0 half) in
    let gone_too : downs_told graph node.0 (r ∷ own) ++ gone_told node.0 own ≡ downs_told graph node.0 (r ∷ own) ++ done_told graph node.0 (r ∷ own) ++ gone_told node.0 (r ∷ own) =
    ap (λ (told : List Addressed). told ++ gone_told node.0 own) (sym (append-nil (downs_told graph node.0 (r ∷ own))))
    ∙ ap₂ (λ (d : List Addressed) (known : List LinkId). downs_told graph node.0 (r ∷ own) ++ d ++ gone_of node.0 known) (sym done) (sym drops_now) in
    let nothing : owed_by_tick graph node.0 (fields graph node.0 own r) (sender_calls graph node.0 (r ∷ own)) ≡ [] =
    chosen {A = List Packet} (is_host graph node.0) (resends (sender_calls graph node.0 (r ∷ own)) (record { 0 = node.0 }) (fields graph node.0 own r)) [] (no_host graph node.0 half) in
    subst (λ (x : Step). IsNodeStep graph node.0 own (ticked node now x)) (sym step_is)
    (record {
      outcome_is = refl;
      downed_is = marks_are;
      dropped_is = refl;
      noted_is = notes_none graph node.0 own r half;
      stamped_is = refl;
      fate_is = no_fate graph node.0 own r (no_host graph node.0 half);
      logged_is = no_log graph node.0 own r (no_host graph node.0 half);
      put_is =
          sym (ap (λ (ps : List Packet). routed (route graph (known_drops (r ∷ own)) node.0) ps ++ beacons graph node.0 own r) nothing
          ∙ ap (λ (g : Fields). map (λ (l : LinkId). (l, beacon g)) (filter (λ (l : LinkId). is_passable graph (known_drops (r ∷ own)) l.0) (outs_of graph node.0))) fields_is
          ∙ ap (λ (ls : List LinkId). map (λ (l : LinkId). (l, beacon f)) (filter (λ (l : LinkId). is_passable graph ls l.0) (outs_of graph node.0))) drops_now);
      unrouted_is = ap (lost (route graph (known_drops (r ∷ own)) node.0)) (sym nothing);
      control_is =
          all_are ∙ ap (λ (told : List Addressed). told ++ gone_told node.0 own) (tells_are ∙ tells_marks graph node.0 own r history marks_are)
          ∙ gone_too;
    })

-- a control message
pub obeys : (graph : Graph) (node : NodeId) (own : List Record) (control : Control) (place : ℕ) (keep : Bool) (step : Step) → is_half graph node.0 ≡ true
    → step ≡ record (quiet_step Ok) { downed = told_marks (ins_of graph node.0) (moments_of graph node.0 own) control; dropped = told_drops (known_drops own) control } → IsNodeStep graph node.0 own (told node control place keep step)
obeys graph node own control place keep step half step_is =
    let s : Step = record (quiet_step Ok) { downed = told_marks (ins_of graph node.0) (moments_of graph node.0 own) control; dropped = told_drops (known_drops own) control } in
    let r : Record = told node control place keep s in
    subst (λ (x : Step). IsNodeStep graph node.0 own (told node control place keep x)) (sym step_is)
    (record {
      outcome_is = refl;
      downed_is = refl;
      dropped_is = refl;
      noted_is = notes_none graph node.0 own r half;
      stamped_is = refl;
      fate_is = no_fate graph node.0 own r (no_host graph node.0 half);
      logged_is = no_log graph node.0 own r (no_host graph node.0 half);
      put_is = refl;
      unrouted_is = refl;
      control_is = refl;
    })

-- A half that stands is ready for a packet that it takes: no link is dropped by that.
pub works_taken : (graph : Graph) (node : ℕ) (own : List Record) (link : LinkId) (p : Packet) (place : ℕ) (keep : Bool) (step : Step) (k : Half) → Stands graph node own k
    → IsNodeStep graph node own (taken link p place keep step) → Works graph node own (taken link p place keep step) k
works_taken graph node own link p place keep step k stands rules = record {
  rules = rules;
  stands = record { half = stands.half; links_are = ready graph node own (taken link p place keep step) k.links stands.links_are rules refl };
}
