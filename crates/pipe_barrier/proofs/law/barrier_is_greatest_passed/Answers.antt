use Rattle.pipe_base.proofs.BarrierLaws.{barrier-is_greatest}
use Rattle.pipe_barrier.proofs.law.barrier_is_greatest_passed.Goals as goal

pub returns : goal.returns
returns c = barrier-is_greatest
