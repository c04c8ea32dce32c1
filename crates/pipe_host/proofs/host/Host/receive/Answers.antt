use Rattle.std.proofs.Common.{true≢false, sym, ◌∙◌}
use Rattle.pipe_host.proofs.HostSteps.{is_silent}
use Rattle.pipe_host.proofs.host.Host.receive.Goals as goal
use Rattle.pipe_host.proofs.host.Host.receive.Goals.{then-has_below, else-has_below}

pub returns-else-is_some : goal.returns-else-is_some
returns-else-is_some c = elim c.if-has_below.branch [
  | then-has_below w ↦ absurd (true≢false (sym w.if-has_below.true ∙ sym w.value-is ∙ c.if-is_some.false))
  | else-has_below w ↦ record {
    barriers = c.barriers_with-barriers.result;
    barriers_are = c.barriers_with-barriers.ensures;
    step_is = λ graph node own stands.
        c.fated.ensures
        ∙ is_silent graph node own c.barriers_with-barriers.result c.args.self.now c.args.fate c.args.packet.now w.answer.result stands.node_is
        (c.has_below.ensures w.if-has_below.false) (sym w.is_some.ensures ∙ sym w.value-is ∙ c.if-is_some.false) w.answer.ensures;
  }
]
