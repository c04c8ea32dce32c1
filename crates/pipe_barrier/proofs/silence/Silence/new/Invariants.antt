use Rattle.std.proofs.Common.{◌≡◌, [], map, take}
use Rattle.pipe_barrier.specs.Silence.{quiet_of}
use Rattle.pipe_barrier.proofs.silence.Silence.new.Given as goal

abbrev pub invariant-loop-link : goal.invariant-loop-link
invariant-loop-link l = l.links.items ≡ map (quiet_of []) (take l.link-index l.ins)
