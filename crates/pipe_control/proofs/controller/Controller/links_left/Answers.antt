use Rattle.std.proofs.Common.{ℕ, ◌+◌, ◌<◌, ◌&&◌, not, Bool, List, length, subst, sym, ◌∙◌, arith}
use Rattle.pipe_control.specs.Known.{view_of}
use Rattle.pipe_control.proofs.KeptLaws.{kept_in, kept_out}
use Rattle.pipe_failtime.specs.Filled.{IsFilled}
use Rattle.pipe_model.specs.Decision.{is_dead}
use Rattle.pipe_topo.specs.Sets.{has}
use Rattle.pipe_control.proofs.controller.Controller.links_left.Goals.{then-stays, else-stays}
use Rattle.pipe_control.proofs.controller.Controller.links_left.Goals as goal

pub loop-link-preserved : goal.loop-link-preserved
loop-link-preserved c =
    let g = c.args.topology.now in
    let k = c.args.self.now in
    let stays = λ (n : ℕ). has k.live n && not (is_dead g (view_of k) n) in
    let count = length g.links in
    let test = c.loop-link-test.true in
    let end = c.links-link-end.ensures.value in
    let link = c.loop-link.link in
    let left = c.loop-link.left in
    let lt : link < count = omega arith in
    elim c.if-stays.branch [
      | then-stays w ↦
          subst (λ (xs : List Bool). IsFilled xs count stays (link + 1)) (sym (w.left-is ∙ w.insert.ensures))
          (kept_in left count stays link c.loop-link.invariant lt (sym c.stays.ensures ∙ w.if-stays.true))
      | else-stays w ↦
          subst (λ (xs : List Bool). IsFilled xs count stays (link + 1)) (sym w.left-is) (kept_out left count stays link c.loop-link.invariant (sym c.stays.ensures ∙ w.if-stays.false))
    ]
