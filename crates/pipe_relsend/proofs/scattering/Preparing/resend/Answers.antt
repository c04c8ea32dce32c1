use Rattle.std.proofs.Common.{◌≡◌, ℕ, List, map, ap, ◌∙◌, sym}
use Rattle.std.proofs.lemmas.Result.{on_ok_weaker}
use Rattle.pipe_base.specs.declared.name.HostId.{HostId}
use Rattle.pipe_base.specs.declared.packet.Packet.{Packet}
use Rattle.pipe_base.specs.Packets.{prepare_to}
use Rattle.pipe_base.specs.Ways.{with_ways, picked}
use Rattle.pipe_relsend.specs.Header.{fields_of}
use Rattle.pipe_relsend.specs.Pending.{Pending, open_dests}
use Rattle.pipe_relsend.proofs.MarkLaws.{open_short}
use Rattle.pipe_relsend.proofs.scattering.Preparing.resend.Goals as goal

pub returns-clause-ok : goal.returns-clause-ok
returns-clause-ok g c =
    let way = picked (g.R.Router.links c.args.routes.now) in
    let origin = c.args.origin in
    let inside = c.self.inside in
    let again : HostId × List ℕ → Packet = prepare_to origin.src inside.ts (fields_of origin) in
    on_ok_weaker c.resend_open.result
    (λ (is : c.resend_open.new.step ≡ with_ways way (map again (open_dests c.as_slice.result.now inside.marks)) c.args.step.now).
    is ∙ ap (λ (ds : List (HostId × List ℕ)). with_ways way (map again (open_dests ds inside.marks)) c.args.step.now) c.as_slice.ensures
    ∙ ap (λ (ds : List (HostId × List ℕ)). with_ways way (map again ds) c.args.step.now) (sym (open_short inside.dests inside.marks))
    ∙ ap (λ (p : Pending). with_ways way (map (prepare_to origin.src p.ts (fields_of origin)) (open_dests p.dests p.marks)) c.args.step.now) c.self.view_is)
    c.resend_open.ensures.ok
