use Rattle.std.proofs.Common.{arith}
use Rattle.pipe_topo.proofs.NameLaws.{copied_more}
use Rattle.pipe_topo.proofs.names.Names.try_clone.Goals as goal

pub loop-at-preserved : goal.loop-at-preserved
loop-at-preserved c =
    copied_more c.args.self.now c.loop-at.copy c.add.new.self c.name.result.now c.loop-at.at c.in_ok-add.field-0 c.len-at-end.ensures.different
    (let size = c.len-at-end.ensures.value in omega arith) c.name.ensures c.loop-at.invariant c.in_ok-add.ensures.added c.in_ok-add.ensures.names
