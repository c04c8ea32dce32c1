use Rattle.pipe_topo.specs.Tables.{IsListed, head_at}
use Rattle.pipe_topo.proofs.tables.ins_table.Given as goal

abbrev pub invariant-loop-number : goal.invariant-loop-number
invariant-loop-number l = IsListed (head_at l.links) l.nodes l.number l.table.items
