use Rattle.std.proofs.Common.{vec_len}
use Rattle.pipe_relsend.proofs.sender.Sender.drop.Given as goal

abbrev pub decreases-loop-unsettled : goal.decreases-loop-unsettled
decreases-loop-unsettled l = vec_len l.pending
