use Rattle.std.proofs.Common.{◌≡◌, None}
use Rattle.pipe_topo.specs.Fault.{repeats}
use Rattle.pipe_topo.specs.First.{first_below}
use Rattle.pipe_topo.proofs.shape.first_double.Given as goal

abbrev pub invariant-loop-at : goal.invariant-loop-at
invariant-loop-at l = first_below (repeats l.cables) l.at ≡ None
