use Rattle.std.proofs.Common.{sym, ◌∙◌}
use Rattle.pipe_barrier.proofs.registers.are_held.Goals as goal

pub returns : goal.returns
returns c is = sym c.one_holds.ensures ∙ is
