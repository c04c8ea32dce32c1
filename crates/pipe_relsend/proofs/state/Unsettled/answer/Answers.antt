use Rattle.std.proofs.Common.{◌≡◌, true, sym, ap, ◌∙◌}
use Rattle.pipe_relsend.specs.declared.state.Answer.{Answer}
use Rattle.pipe_relsend.specs.declared.state.Answer.TheVariants.{RecallAck}
use Rattle.pipe_relsend.specs.Pending.{Pending, with_mark}
use Rattle.pipe_relsend.specs.State.{after_answer, pending_of}
use Rattle.pipe_relsend.proofs.state.Unsettled.answer.Goals as goal

pub returns-in-Recalling-RecallAck : goal.returns-in-Recalling-RecallAck
returns-in-Recalling-RecallAck c =
    let host = c.args.host.0 in
    let old = c.in-Recalling-RecallAck.recalling in
    let whole : ◌≡◌ {A = Pending} (record old { recalled = true }) c.args.self = ap pending_of (sym c.in-Recalling-RecallAck.is-0) ∙ c.self.view_is in
    c.left.ensures old (with_mark host old) c.ack.ensures
    ∙ ap (after_answer RecallAck host) whole
    ∙ ap (λ (a : Answer). after_answer a host c.args.self) (sym c.in-Recalling-RecallAck.is-1)
