use Rattle.std.proofs.Common.{◌∙◌, arith, subst, sym}
use Rattle.pipe_topo.specs.Sets.{has}
use Rattle.pipe_topo.specs.Walk.{IsDistances}
use Rattle.pipe_topo.proofs.ReachLaws.{near_is_reach}
use Rattle.pipe_topo.proofs.wiring.Wiring.reaches.Goals as goal

pub returns : goal.returns
returns c =
    let few = c.walk_back.ensures.few in
    let right = subst (IsDistances c.args.self.now (has c.args.by.now) c.args.to.0) (sym c.deref.ensures.value) c.in_ok-away.ensures.right in
    c.goes_on.ensures
    ∙ near_is_reach c.args.self.now (has c.args.by.now) c.args.from.0 c.args.to.0 c.deref.result.now c.walk_back.ensures.graph (omega arith) right
