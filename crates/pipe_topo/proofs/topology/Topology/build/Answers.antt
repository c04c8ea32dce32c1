use Rattle.std.proofs.Common.{sym, ◌∙◌}
use Rattle.pipe_topo.proofs.FedLaws.{made_fed}
use Rattle.pipe_topo.proofs.topology.Topology.build.Goals as goal

pub invariant_of-result : goal.invariant_of-result
invariant_of-result c =
    made_fed c.args.plan.now c.as_slice-levels.result.now c.as_slice.result.now c.in_ok-wiring.wiring c.shape_fault.result c.as_slice-levels.ensures c.as_slice.ensures
    c.requires.ends c.shape_fault.ensures.value c.in_default.is c.in_ok-wiring.ensures (sym c.in_ok-fault.ensures ∙ c.in-None.is)

pub returns-in-None-clause-joined : goal.returns-in-None-clause-joined
returns-in-None-clause-joined c =
    (made_fed c.args.plan.now c.as_slice-levels.result.now c.as_slice.result.now c.in_ok-wiring.wiring c.shape_fault.result c.as_slice-levels.ensures c.as_slice.ensures
    c.requires.ends c.shape_fault.ensures.value c.in_default.is c.in_ok-wiring.ensures (sym c.in_ok-fault.ensures ∙ c.in-None.is)).joined
