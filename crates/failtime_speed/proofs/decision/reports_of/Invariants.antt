use Rattle.std.proofs.Common.{◌≡◌, length}
use Rattle.failtime_speed.proofs.decision.reports_of.Given as goal

abbrev pub invariant-loop-at : goal.invariant-loop-at
invariant-loop-at l = length l.reports ≡ l.links
