use Rattle.std.proofs.Common.{ap, ◌∙◌}
use Rattle.std.proofs.lemmas.Result.{IfOk-weaker}
use Rattle.pipe_barrier.specs.Registers.{downs_among}
use Rattle.pipe_barrier.proofs.Standing.{downs_kept}
use Rattle.pipe_barrier.proofs.registers.Registers.downs.Goals as goal

pub returns : goal.returns
returns c =
    IfOk-weaker c.tell_downs.result _ _
    (λ told is ins past stands. is ∙ ap downs_among (c.links.ensures ∙ stands.links_are) ∙ downs_kept past ins)
    c.tell_downs.ensures
