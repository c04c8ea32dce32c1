use Rattle.std.proofs.Common.{arith, subst}
use Rattle.pipe_topo.specs.Fed.{IsFed}
use Rattle.pipe_topo.proofs.topology.Topology.hosts.Goals as goal

pub returns-clause-some : goal.returns-clause-some
returns-clause-some c = let fed = subst IsFed c.self.view_is c.self.invariant in omega (arith, fed.some, c.hosts.ensures.value)

pub returns-clause-joined : goal.returns-clause-joined
returns-clause-joined c = (subst IsFed c.self.view_is c.self.invariant).joined
