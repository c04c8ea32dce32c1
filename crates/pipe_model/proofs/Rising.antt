-- Barriers never fall.
use Rattle.std.proofs.Common.{ℕ, ◌≤◌, max, Bool, true, false, List, [], ◌∷◌, Option, None, Some, arith, if◌then◌else◌}
use Rattle.pipe_base.specs.declared.name.LinkId.{LinkId}
use Rattle.pipe_base.specs.declared.name.Ts.{Ts}
use Rattle.pipe_base.specs.declared.packet.Packet.{Packet}
use Rattle.pipe_base.specs.declared.packet.Plane.{Plane}
use Rattle.pipe_graph.specs.Graph.{Graph, ins_of}
use Rattle.pipe_base.specs.Moment.{Moment, WentDown, Dropped, keeps_links, receipt, with_received, with_downed}
use Rattle.pipe_base.specs.Entries.{with_entries}
use Rattle.pipe_base.specs.Barrier.{barrier, level, is_look}
use Rattle.pipe_model.specs.declared.record.Record.{Record}
use Rattle.pipe_model.specs.Moments.{moments_of, barrier_at, received_of}

looked : (b : Bool) (before now : ℕ) → before ≤ (if b then max before now else before)
looked true before now = omega arith
looked false before now = omega arith

pub barrier_more : (plane : Plane) (ins : List LinkId) (m : Moment) (past : List Moment) → barrier plane ins past ≤ barrier plane ins (m ∷ past)
barrier_more plane ins m past = looked (is_look m) (barrier plane ins past) (level plane ins (m ∷ past))

received_more : (plane : Plane) (ins : List LinkId) (b : Bool) (q : Option (ℕ × Packet)) (past : List Moment)
    → barrier plane ins past ≤ barrier plane ins (with_received b q past)
received_more plane ins b None past = omega arith
received_more plane ins b (Some q) past = barrier_more plane ins (receipt b q) past

downed_more : (plane : Plane) (ins : List LinkId) (ds : List (LinkId × Ts)) (past : List Moment)
    → barrier plane ins past ≤ barrier plane ins (with_downed ds past)
downed_more plane ins [] past = omega arith
downed_more plane ins (d ∷ ds) past =
    omega (arith, barrier_more plane ins (WentDown d.0.0) past, downed_more plane ins ds (WentDown d.0.0 ∷ past))

dropped_more : (plane : Plane) (ins : List LinkId) (ls : List LinkId) (past : List Moment)
    → barrier plane ins past ≤ barrier plane ins (with_entries ins ls past)
dropped_more plane ins [] past = omega arith
dropped_more plane ins (l ∷ ls) past =
    omega (arith, barrier_more plane ins (Dropped l.0) past, dropped_more plane ins ls (Dropped l.0 ∷ past))

step_more : (plane : Plane) (ins : List LinkId) (past : List Moment) (b : Bool) (q : Option (ℕ × Packet)) (ds : List (LinkId × Ts)) (ls : List LinkId)
    → barrier plane ins past ≤ barrier plane ins (with_entries ins ls (with_downed ds (with_received b q past)))
step_more plane ins past b q ds ls =
    omega (arith, received_more plane ins b q past, downed_more plane ins ds (with_received b q past), dropped_more plane ins ls (with_downed ds (with_received b q past)))

pub barrier_rises : (plane : Plane) (graph : Graph) (node : ℕ) (own : List Record) (r : Record)
    → barrier_at plane graph node own ≤ barrier_at plane graph node (r ∷ own)
barrier_rises plane graph node own r =
    step_more plane (ins_of graph node) (moments_of graph node own) (keeps_links r.step.downed r.step.dropped)
    (received_of (moments_of graph node own) r.event r.took) r.step.downed r.step.dropped
