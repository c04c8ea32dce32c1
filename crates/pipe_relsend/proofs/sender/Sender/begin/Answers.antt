use Rattle.std.proofs.Common.{◌≡◌, ◌∷◌, [], ◌++◌, List, false, ap, sym, subst, ◌∙◌}
use Rattle.pipe_base.specs.Scattering.{Scattering, Began}
use Rattle.pipe_relsend.specs.Pending.{Pending, started}
use Rattle.pipe_relsend.specs.Sending.{Stands}
use Rattle.pipe_relsend.proofs.SendingLaws.{stands_begun}
use Rattle.pipe_relsend.proofs.sender.Sender.begin.Goals as goal

pub returns-clause-stands : goal.returns-clause-stands
returns-clause-stands c = λ calls stands above.
    let s : Scattering = record { ts = c.args.ts; dests = c.args.dests } in
    let one : c.begun.result ≡ started c.args.ts c.args.dests = c.begun.ensures ∙ ap {B = Pending} (λ (p : Pending). record p { recalled = false }) c.start-preparing.ensures in
    let more : c.push_reserved.new.self.items ≡ c.args.self.now ++ started c.args.ts c.args.dests ∷ [] =
    c.push_reserved.ensures.items ∙ ap (λ (p : Pending). c.self.inside.pending.items ++ p ∷ []) one
    ∙ ap (λ (ps : List Pending). ps ++ started c.args.ts c.args.dests ∷ []) c.self.view_is in
    subst (Stands (Began s ∷ calls)) (sym more) (stands_begun calls c.args.self.now s stands above c.requires.some)
