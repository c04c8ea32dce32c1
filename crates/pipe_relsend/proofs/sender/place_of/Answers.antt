use Rattle.std.proofs.Common.{ℕ, ap, sym, ◌∙◌}
use Rattle.std.proofs.lemmas.List.{get_or_default}
use Rattle.pipe_base.specs.declared.name.Ts.{Ts}
use Rattle.pipe_relsend.specs.Pending.{Pending}
use Rattle.pipe_relsend.proofs.sender.place_of.Goals as goal

pub returns-then-ts : goal.returns-then-ts
returns-then-ts c = record {
  within = c.loop-at-test.true;
  here = λ d.
      ap {B = ℕ} (λ (p : Pending). p.ts.0) (get_or_default c.args.pending.now c.loop-at.at d c.index-pending-at.result c.loop-at-test.true ∙ sym c.index-pending-at.is)
      ∙ ap {B = ℕ} (λ (t : Ts). t.0) (sym c.ts.ensures) ∙ c.if-ts.true;
  earlier = c.loop-at.invariant;
}
