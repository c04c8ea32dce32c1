use Rattle.std.proofs.Common.{◌∷◌, ◌++◌, [], List, ap, sym, ◌∙◌, arith}
use Rattle.std.proofs.lemmas.List.FromFn.{map-range_with_len_more}
use Rattle.pipe_topo.specs.declared.plan.CableEnd.{CableEnd}
use Rattle.pipe_topo.specs.Star.{host_cable}
use Rattle.pipe_topo.proofs.plan.Plan.star.Goals as goal

pub loop-host-preserved : goal.loop-host-preserved
loop-host-preserved c =
    c.in_ok-push-2.ensures.ok
    ∙ ap (λ (cables : List (CableEnd × CableEnd)). cables ++ host_cable c.loop-host.host ∷ []) c.loop-host.invariant
    ∙ sym (map-range_with_len_more host_cable 0 c.loop-host.host c.loop-host.host (omega arith))
