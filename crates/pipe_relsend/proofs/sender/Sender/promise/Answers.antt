use Rattle.std.proofs.Common.{ℕ, ap, ◌∙◌, sym}
use Rattle.pipe_base.specs.declared.name.Ts.{Ts}
use Rattle.pipe_relsend.proofs.SendingLaws.{promise_begun, promise_first}
use Rattle.pipe_relsend.specs.Sending.{first_or}
use Rattle.pipe_relsend.proofs.sender.Sender.promise.Goals as goal

pub returns-clause-stands : goal.returns-clause-stands
returns-clause-stands c = λ calls stands.
    c.first_ts.ensures ∙ ap (first_or c.args.next.0) (c.as_slice.ensures.value ∙ c.self.view_is) ∙ promise_first c.args.next.0 calls c.args.self.now stands

pub returns-clause-begun : goal.returns-clause-begun
returns-clause-begun c = λ calls s stands above some is later.
    c.first_ts.ensures ∙ ap (first_or c.args.next.0) (c.as_slice.ensures.value ∙ c.self.view_is)
    ∙ ap {B = ℕ} (λ (t : Ts). first_or t.0 c.args.self.now) (sym is) ∙ promise_begun later calls c.args.self.now s stands above some
