use Rattle.std.proofs.Common.{◌∷◌, ap, sym, subst, ◌∙◌}
use Rattle.pipe_base.specs.Scattering.{RecallAcked}
use Rattle.pipe_relsend.specs.Sending.{Stands, after_recall_ack}
use Rattle.pipe_relsend.proofs.SendingLaws.{stands_recall_acked}
use Rattle.pipe_relsend.proofs.sender.Sender.recall_ack.Goals as goal

pub returns-clause-stands : goal.returns-clause-stands
returns-clause-stands c = λ calls stands.
    subst (Stands (RecallAcked c.args.ts.0 c.args.host.0 ∷ calls)) (sym (c.answer_among.ensures.items ∙ ap (after_recall_ack c.args.ts.0 c.args.host.0) c.self.view_is))
    (stands_recall_acked calls c.args.self.now c.args.ts.0 c.args.host.0 stands)
