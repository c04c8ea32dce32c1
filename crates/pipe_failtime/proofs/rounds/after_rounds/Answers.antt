use Rattle.std.proofs.Common.{◌≡◌, ℕ, ◌+◌, ◌-◌, Bool, length, true, Some, None, sym, ap, subst, ◌∙◌, arith}
use Rattle.std.proofs.lemmas.List.{length-set}
use Rattle.pipe_topo.specs.Sets.{has}
use Rattle.pipe_graph.specs.Doomed.{doomed, is_left}
use Rattle.pipe_failtime.specs.First.{next_to_go}
use Rattle.pipe_failtime.proofs.FirstLaws.{next_inside}
use Rattle.pipe_failtime.proofs.RoundLaws.{rounds_over, rounds_turn}
use Rattle.pipe_failtime.proofs.rounds.after_rounds.Goals as goal

pub insert-requires : goal.insert-requires
insert-requires c =
    let g = c.args.reach.now in
    let few = c.hosts-end.ensures.few in
    let inside = next_inside g.graph (has g.by) (has c.left-left.result) c.in-Some.host (sym c.next_to_go.ensures ∙ c.in-Some.is) in
    omega arith

pub returns-in-None : goal.returns-in-None
returns-in-None c =
    let g = c.args.reach.now in
    let none = subst (λ (left : ℕ → Bool). next_to_go g.graph (has g.by) left ≡ None) c.left-left.ensures (sym c.next_to_go.ensures ∙ c.in-None.is) in
    sym (rounds_over g.graph (has g.by) (has c.args.members.now) (has c.loop.doomed) (g.graph.hosts - c.loop.counter) none) ∙ c.loop.invariant.rest

pub loop-preserved : goal.loop-preserved
loop-preserved c =
    let g = c.args.reach.now in
    let some = subst (λ (left : ℕ → Bool). next_to_go g.graph (has g.by) left ≡ Some c.in-Some.host) c.left-left.ensures (sym c.next_to_go.ensures ∙ c.in-Some.is) in
    let size = c.loop.invariant.size in
    let inside = next_inside g.graph (has g.by) (is_left g.graph (has c.args.members.now) (has c.loop.doomed)) c.in-Some.host some in
    record {
      size = ap length c.insert.ensures ∙ length-set c.loop.doomed c.in-Some.host true ∙ size;
      rest = rounds_turn g.graph (has g.by) (has c.args.members.now) c.loop.doomed c.insert.new.self c.in-Some.host (g.graph.hosts - (c.loop.counter + 1)) (g.graph.hosts - c.loop.counter)
          (doomed g.graph (has g.by) (has c.args.members.now) (has c.args.before)) some (omega arith) c.insert.ensures (omega arith) c.loop.invariant.rest;
    }
