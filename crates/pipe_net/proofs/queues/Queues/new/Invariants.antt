use Rattle.std.proofs.Common.{◌≡◌, [], replicate}
use Rattle.pipe_net.specs.declared.line.Line.TheVariants.{Open}
use Rattle.pipe_net.proofs.queues.Queues.new.Given as goal

abbrev pub invariant-links : goal.invariant-links
invariant-links l = l.lines.items ≡ replicate l.counter (Open [])
