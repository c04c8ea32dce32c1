use Rattle.std.proofs.Common.{◌∙◌, ℕ, List, ap}
use Rattle.pipe_base.specs.declared.name.HostId.{HostId}
use Rattle.pipe_relsend.specs.Pending.{Pending, taken_back}
use Rattle.pipe_relsend.proofs.RecallLaws.{lost, made_anew, still_open}
use Rattle.pipe_relsend.proofs.scattering.Preparing.failed.Goals as goal

-- it is taken back
pub returns-then-is_open : goal.returns-then-is_open
returns-then-is_open c =
    let failed = c.args.noted.now in
    let inside = c.self.inside in
    let anew = made_anew failed inside.ts inside.dests c.as_slice-2.result.now inside.marks c.with_failed-marks.result c.args.self c.self.invariant c.as_slice-2.ensures c.self.view_is
    c.with_failed-marks.ensures in (
      lost failed inside.ts inside.dests c.as_slice.result.now inside.marks c.args.self c.has_lost.result c.as_slice.ensures c.self.view_is c.has_lost.ensures ∙ c.if-not-has_lost.false,
      still_open inside.ts inside.dests c.with_failed-marks.result c.len.result (taken_back failed c.args.self) c.is_open.result c.len.ensures anew c.is_open.ensures ∙ c.if-is_open.true,
      anew,
    )

-- it is aborted at once
pub returns-else-is_open : goal.returns-else-is_open
returns-else-is_open c =
    let failed = c.args.noted.now in
    let inside = c.self.inside in
    let anew = made_anew failed inside.ts inside.dests c.as_slice-2.result.now inside.marks c.with_failed-marks.result c.args.self c.self.invariant c.as_slice-2.ensures c.self.view_is
    c.with_failed-marks.ensures in (
      lost failed inside.ts inside.dests c.as_slice.result.now inside.marks c.args.self c.has_lost.result c.as_slice.ensures c.self.view_is c.has_lost.ensures ∙ c.if-not-has_lost.false,
      still_open inside.ts inside.dests c.with_failed-marks.result c.len.result (taken_back failed c.args.self) c.is_open.result c.len.ensures anew c.is_open.ensures ∙ c.if-is_open.false,
      ap (λ (p : Pending). p.ts) c.self.view_is,
      ap {B = List (HostId × List ℕ)} (λ (p : Pending). p.dests) c.self.view_is,
    )
