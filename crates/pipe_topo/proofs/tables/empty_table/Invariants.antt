use Rattle.std.proofs.Common.{◌≡◌, [], replicate}
use Rattle.pipe_topo.proofs.tables.empty_table.Given as goal

abbrev pub invariant-loop : goal.invariant-loop
invariant-loop l = l.table.items ≡ replicate l.counter []
