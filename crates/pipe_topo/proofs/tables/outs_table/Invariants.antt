use Rattle.pipe_topo.specs.Tables.{IsListed, tail_at}
use Rattle.pipe_topo.proofs.tables.outs_table.Given as goal

abbrev pub invariant-loop-number : goal.invariant-loop-number
invariant-loop-number l = IsListed (tail_at l.links) l.nodes l.number l.table.items
