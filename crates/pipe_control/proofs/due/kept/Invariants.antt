use Rattle.pipe_failtime.specs.Filled.{IsFilled}
use Rattle.pipe_control.proofs.KeptLaws.{stays}
use Rattle.pipe_control.proofs.due.kept.Given as goal

abbrev pub invariant-loop-host : goal.invariant-loop-host
invariant-loop-host l = IsFilled l.kept 64 (stays l.members l.doomed) l.host
