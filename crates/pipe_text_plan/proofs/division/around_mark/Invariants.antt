use Rattle.std.proofs.Common.{length}
use Rattle.pipe_text_plan.proofs.MarkLaws.{IsPassed}
use Rattle.pipe_text_plan.proofs.division.around_mark.Given as goal

abbrev pub invariant-pieces : goal.invariant-pieces
invariant-pieces l = IsPassed l.fn.input l.rest l.passed

abbrev pub decreases-pieces : goal.decreases-pieces
decreases-pieces l = length l.rest
