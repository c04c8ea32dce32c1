use Rattle.std.proofs.Common.{◌≡◌, true, sym, ap, ◌∙◌}
use Rattle.pipe_relsend.specs.Pending.{Pending, with_failed}
use Rattle.pipe_relsend.specs.State.{after_note, pending_of}
use Rattle.pipe_relsend.proofs.state.Unsettled.note.Goals as goal

pub returns-in-Recalling : goal.returns-in-Recalling
returns-in-Recalling c =
    let failed = c.args.noted.now in
    let old = c.in-Recalling.recalling in
    let whole : ◌≡◌ {A = Pending} (record old { recalled = true }) c.args.self = ap pending_of (sym c.in-Recalling.is) ∙ c.self.view_is in
    c.left.ensures old (with_failed failed old) c.failed-in-Recalling.ensures ∙ ap (after_note failed) whole
