use Rattle.std.proofs.Common.{◌≡◌, true, false, map, sym, ap, ◌∙◌}
use Rattle.std.proofs.lemmas.Result.{on_ok_weaker}
use Rattle.pipe_base.specs.Packets.{prepare_to, recall_to}
use Rattle.pipe_base.specs.Ways.{picked, with_ways}
use Rattle.pipe_relsend.specs.Header.{fields_of}
use Rattle.pipe_relsend.specs.Pending.{Pending, open_dests, owed}
use Rattle.pipe_relsend.specs.State.{pending_of}
use Rattle.pipe_relsend.proofs.state.Unsettled.resend.Goals as goal

pub returns-in-Preparing-clause-ok : goal.returns-in-Preparing-clause-ok
returns-in-Preparing-clause-ok g c =
    let way = picked (g.R.Router.links c.args.routes.now) in
    let origin = c.args.origin in
    let old = c.in-Preparing.preparing in
    let whole : ◌≡◌ {A = Pending} (record old { recalled = false }) c.args.self.now = ap pending_of (sym c.in-Preparing.is) ∙ c.self.view_is in
    on_ok_weaker c.resend.result
    (λ (is : c.resend.new.step ≡ with_ways way (map (prepare_to origin.src old.ts (fields_of origin)) (open_dests old.dests old.marks)) c.args.step.now).
    is ∙ ap (λ (p : Pending). with_ways way (owed origin.src (fields_of origin) p) c.args.step.now) whole)
    c.resend.ensures.ok

pub returns-in-Recalling-clause-ok : goal.returns-in-Recalling-clause-ok
returns-in-Recalling-clause-ok g c =
    let way = picked (g.R.Router.links c.args.routes.now) in
    let origin = c.args.origin in
    let old = c.in-Recalling.recalling in
    let whole : ◌≡◌ {A = Pending} (record old { recalled = true }) c.args.self.now = ap pending_of (sym c.in-Recalling.is) ∙ c.self.view_is in
    on_ok_weaker c.resend-in-Recalling.result
    (λ (is : c.resend-in-Recalling.new.step ≡ with_ways way (map (recall_to origin.src old.ts (fields_of origin)) (open_dests old.dests old.marks)) c.args.step.now).
    is ∙ ap (λ (p : Pending). with_ways way (owed origin.src (fields_of origin) p) c.args.step.now) whole)
    c.resend-in-Recalling.ensures.ok
