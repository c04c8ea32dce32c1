use Rattle.std.proofs.Common.{◌≡◌, ◌-◌, length}
use Rattle.pipe_topo.specs.Sets.{has}
use Rattle.pipe_graph.specs.Doomed.{after_rounds, doomed}
use Rattle.pipe_failtime.proofs.rounds.after_rounds.Given as goal

abbrev pub invariant-loop : goal.invariant-loop
invariant-loop l = record {
  size : length l.doomed ≡ 64;
  rest : after_rounds l.reach.graph (has l.reach.by) (has l.members) (has l.doomed) (l.reach.graph.hosts - l.counter)
      ≡ doomed l.reach.graph (has l.reach.by) (has l.members) (has l.fn.before);
}
