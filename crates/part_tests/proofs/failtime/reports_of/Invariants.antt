use Rattle.std.proofs.Common.{◌≡◌, length}
use Rattle.part_tests.proofs.failtime.reports_of.Given as goal

abbrev pub invariant-loop-link : goal.invariant-loop-link
invariant-loop-link g l = length l.reports ≡ l.links
