use Rattle.std.proofs.Common.{◌≡◌, ◌++◌, map, take, drop}
use Rattle.pipe_base.specs.Silence.{Ticked}
use Rattle.pipe_barrier.specs.Silence.{quiet_after}
use Rattle.pipe_barrier.proofs.silence.tick_all.Given as goal

abbrev pub invariant-links : goal.invariant-links
invariant-links l = l.links ≡ map (quiet_after (Ticked l.now.0)) (take l.quiet-index l.initial.links) ++ drop l.quiet-index l.initial.links
