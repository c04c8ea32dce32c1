use Rattle.std.proofs.Common.{sym, subst}
use Rattle.pipe_topo.specs.Fed.{IsFed}
use Rattle.pipe_topo.proofs.topology.Topology.try_clone.Goals as goal

pub invariant_of-result : goal.invariant_of-result
invariant_of-result c = subst IsFed (sym c.in_ok-wiring.ensures) c.self.invariant
