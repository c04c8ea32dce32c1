use Rattle.std.proofs.Common.{sym, ◌∙◌, arith}
use Rattle.pipe_topo.proofs.FaultLaws.{apart_found}
use Rattle.pipe_topo.proofs.apart.apart_fault.Goals as goal

pub returns-in-Some : goal.returns-in-Some
returns-in-Some c =
    let hosts = c.hosts-a-end.ensures.value in
    sym (apart_found c.args.wiring.now c.loop-a.a c.in-Some.b (omega arith) c.loop-a.invariant (sym c.in_ok-b.ensures ∙ c.in-Some.is))
