use Rattle.std.proofs.Common.{◌≡◌, ℕ, Bool, List, sym, ap, subst, ◌∙◌, arith}
use Rattle.pipe_failtime.specs.Filled.{IsFilled}
use Rattle.pipe_failtime.proofs.FilledLaws.{filled_none}
use Rattle.pipe_control.proofs.KeptLaws.{kept_all, stays}
use Rattle.pipe_control.proofs.due.kept.Goals as goal

pub loop-host-init : goal.loop-host-init
loop-host-init c =
    let test = stays c.copy-members.result c.args.doomed.now in
    subst (λ (set : List Bool). IsFilled set 64 test 0) (sym c.none-kept.ensures) (filled_none 64 test)

pub returns : goal.returns
returns c =
    let past = c.loop-host-test.false in
    let within = c.loop-host.auto.host-end in
    let over : c.loop-host.host ≡ 64 = omega arith in
    let members = c.copy-members.result in
    let doomed = c.args.doomed.now in
    kept_all members doomed c.loop-host.kept c.copy-members.ensures.size
    (subst (λ (n : ℕ). IsFilled c.loop-host.kept 64 (stays members doomed) n) over c.loop-host.invariant)
    ∙ ap (λ (m : List Bool). stays m doomed) c.copy-members.ensures.value
