use Rattle.std.proofs.Common.{◌≡◌, None}
use Rattle.pipe_topo.specs.Fault.{is_idle}
use Rattle.pipe_topo.specs.First.{first_below}
use Rattle.pipe_topo.proofs.shape.first_idle.Given as goal

abbrev pub invariant-loop-switch : goal.invariant-loop-switch
invariant-loop-switch l = first_below (is_idle l.levels l.cables) l.switch ≡ None
