use Rattle.std.proofs.Common.{ℕ, Bool, Option, is_some, sym, ap, ◌∙◌}
use Rattle.pipe_base.specs.declared.name.Ts.{Ts}
use Rattle.pipe_control.proofs.DeadLaws.{dies_useless}
use Rattle.pipe_control.proofs.controller.Controller.is_dead.Goals as goal

pub returns-else-is_some : goal.returns-else-is_some
returns-else-is_some c =
    dies_useless _ _ _ c.has-else-is_some.result (sym c.has.ensures ∙ c.if-has.true)
    (ap (λ (r : Option Ts). is_some r) (sym c.value.ensures) ∙ sym c.is_some.ensures ∙ c.if-is_some.false)
    (c.has-else-is_some.ensures ∙ ap (λ (s : ℕ → Bool). s c.args.link.0) c.requires.value)
