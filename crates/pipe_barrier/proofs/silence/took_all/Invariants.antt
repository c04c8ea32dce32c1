use Rattle.std.proofs.Common.{◌≡◌, ◌++◌, map, take, drop}
use Rattle.pipe_base.specs.Silence.{Took}
use Rattle.pipe_barrier.specs.Silence.{quiet_after}
use Rattle.pipe_barrier.proofs.silence.took_all.Given as goal

abbrev pub invariant-links : goal.invariant-links
invariant-links l = l.links ≡ map (quiet_after (Took l.link.0)) (take l.quiet-index l.initial.links) ++ drop l.quiet-index l.initial.links
