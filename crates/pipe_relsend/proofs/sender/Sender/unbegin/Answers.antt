use Rattle.std.proofs.Common.{◌≡◌, ℕ, List, ◌-◌, ap, sym, subst, ◌∙◌, take, length}
use Rattle.pipe_relsend.specs.Pending.{Pending}
use Rattle.pipe_relsend.specs.Sending.{Stands}
use Rattle.pipe_relsend.proofs.SendingLaws.{stands_unbegun}
use Rattle.pipe_relsend.proofs.sender.Sender.unbegin.Goals as goal

pub returns-clause-stands : goal.returns-clause-stands
returns-clause-stands c = λ calls s stands some.
    let items : List Pending = c.self.inside.pending.items in
    let left : c.pop.new.self.items ≡ take (length c.args.self.now - 1) c.args.self.now =
    c.pop.ensures.rest ∙ ap (λ (n : ℕ). take (n - 1) items) c.self.inside.pending.ok.0 ∙ ap (λ (ps : List Pending). take (length ps - 1) ps) c.self.view_is in
    subst (Stands calls) (sym left) (stands_unbegun calls c.args.self.now s stands some)
