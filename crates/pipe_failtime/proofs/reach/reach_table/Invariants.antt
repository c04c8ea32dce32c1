use Rattle.pipe_topo.specs.Sets.{has}
use Rattle.pipe_failtime.proofs.ReachingLaws.{IsPartTable}
use Rattle.pipe_failtime.proofs.reach.reach_table.Given as goal

abbrev pub invariant-loop-host : goal.invariant-loop-host
invariant-loop-host l = IsPartTable l.topology (has l.by) l.table.items l.host
