use Rattle.std.proofs.Common.{List, ◌∷◌, subst, sym}
use Rattle.pipe_base.specs.declared.name.LinkId.{LinkId}
use Rattle.pipe_base.specs.declared.name.Ts.{Ts}
use Rattle.pipe_graph.specs.Graph.{ins_of}
use Rattle.pipe_base.specs.Moment.{with_downed}
use Rattle.pipe_base.specs.Entries.{with_entries}
use Rattle.pipe_base.specs.Silence.{Ticked}
use Rattle.pipe_barrier.specs.InLinks.{Stands}
use Rattle.pipe_model.specs.Moments.{moments_of, quiet_calls, received}
use Rattle.pipe_links.proofs.Follows.{marks_follow, none_from, receipt_from, received_follows, tick_follows}
use Rattle.pipe_links.proofs.links.follow.Goals as goal

pub returns-in-Some : goal.returns-in-Some
returns-in-Some c = λ graph node own stands comes step.
    let r = c.args.made.now in
    let found = receipt_from (received graph node own r) c.in-Some.receipt (c.in-Some.ensures graph node own step) in
    received_follows graph node own r found.0 c.in-Some.receipt c.receive.new.self step found.1 found.2
    (c.receive.ensures (ins_of graph node) graph.patience (moments_of graph node own) (quiet_calls graph node own) stands)

pub returns-in-Some-tick_of : goal.returns-in-Some-tick_of
returns-in-Some-tick_of c = λ graph node own stands comes step.
    let r = c.args.made.now in
    tick_follows graph node own r c.in-Some-tick_of.now c.tick.new.self step (none_from (received graph node own r) (c.in-None.ensures graph node own step))
    (sym c.in-Some-tick_of.ensures)
    (subst (λ (marks : List (LinkId × Ts)). Stands (ins_of graph node) graph.patience c.tick.new.self (with_downed marks (moments_of graph node own)) (Ticked c.in-Some-tick_of.now.0 ∷ quiet_calls graph node own))
    c.downed.ensures (c.tick.ensures (ins_of graph node) graph.patience (moments_of graph node own) (quiet_calls graph node own) stands))

pub returns-in-None-tick_of : goal.returns-in-None-tick_of
returns-in-None-tick_of c = λ graph node own stands comes step.
    let r = c.args.made.now in
    marks_follow graph node own r c.remove.new.self (none_from (received graph node own r) (c.in-None.ensures graph node own step)) c.in-None-tick_of.ensures
    (subst (λ (drops : List LinkId). Stands (ins_of graph node) graph.patience c.remove.new.self (with_entries (ins_of graph node) drops (with_downed r.step.downed (moments_of graph node own))) (quiet_calls graph node own))
    c.dropped.ensures
    (c.remove.ensures (ins_of graph node) graph.patience (with_downed r.step.downed (moments_of graph node own)) (quiet_calls graph node own)
    (subst (λ (marks : List (LinkId × Ts)). Stands (ins_of graph node) graph.patience c.down.new.self (with_downed marks (moments_of graph node own)) (quiet_calls graph node own))
    c.downed-in-None-tick_of.ensures (c.down.ensures (ins_of graph node) graph.patience (moments_of graph node own) (quiet_calls graph node own) stands))))
