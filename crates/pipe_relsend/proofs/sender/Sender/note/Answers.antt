use Rattle.std.proofs.Common.{◌∷◌, ap, sym, subst, ◌∙◌}
use Rattle.pipe_base.specs.Scattering.{Noted}
use Rattle.pipe_relsend.specs.Sending.{Stands, noted}
use Rattle.pipe_relsend.proofs.SendingLaws.{stands_noted}
use Rattle.pipe_relsend.proofs.sender.Sender.note.Goals as goal

pub returns-clause-stands : goal.returns-clause-stands
returns-clause-stands c = λ calls stands knows.
    subst (Stands (Noted c.args.failed.now ∷ calls)) (sym (c.note_among.ensures.items ∙ ap (noted c.args.failed.now) c.self.view_is))
    (stands_noted calls c.args.self.now c.args.failed.now stands knows)
