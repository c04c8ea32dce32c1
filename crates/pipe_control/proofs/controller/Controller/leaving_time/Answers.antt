use Rattle.std.proofs.Common.{◌≡◌, ℕ, Bool, true, false, if◌then◌else◌, Option, None, IfOk, sym, ap, subst, ◌∙◌}
use Rattle.pipe_base.specs.declared.name.Ts.{Ts}
use Rattle.pipe_graph.specs.Cut.{is_cut}
use Rattle.pipe_control.specs.Known.{view_of}
use Rattle.pipe_model.specs.Decision.{time_at}
use Rattle.pipe_model.specs.View.{intact, is_kept}
use Rattle.pipe_control.proofs.controller.Controller.leaving_time.Goals as goal

pub returns-then-branch : goal.returns-then-branch
returns-then-branch c =
    let g = c.args.topology.now in
    let v = view_of c.args.self.now in
    let host = c.args.host.0 in
    let cut : is_cut g (intact v) (is_kept v) host ≡ true =
    ap (λ (kept : ℕ → Bool). is_cut g (intact v) kept host) (sym c.requires.kept) ∙ sym c.in_ok-is_cut.ensures ∙ c.if-branch.true in
    subst (λ (b : Bool). IfOk c.failure_time.result (λ (time : Option Ts). time ≡ (if b then time_at g v host else None))) (sym cut) c.failure_time.ensures

pub returns-else-branch : goal.returns-else-branch
returns-else-branch c =
    let g = c.args.topology.now in
    let v = view_of c.args.self.now in
    let host = c.args.host.0 in
    let cut : is_cut g (intact v) (is_kept v) host ≡ false =
    ap (λ (kept : ℕ → Bool). is_cut g (intact v) kept host) (sym c.requires.kept) ∙ sym c.in_ok-is_cut.ensures ∙ c.if-branch.false in
    sym (ap (λ (b : Bool). if b then time_at g v host else None) cut)
