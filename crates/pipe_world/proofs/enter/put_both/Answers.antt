use Rattle.std.proofs.Common.{rules, ◌≡◌, ℕ, length, sym, subst, ap, ◌∙◌, arith}
use Rattle.pipe_net.specs.Waits.{Waits}
use Rattle.pipe_world.specs.Queues.{AreKnown}
use Rattle.pipe_world.proofs.WaitingLists.{puts_control, puts_count}
use Rattle.pipe_world.proofs.enter.put_both.Goals as goal

pub put_messages-requires-clause-room : goal.put_messages-requires-clause-room
put_messages-requires-clause-room c =
    omega (
      arith,
      ap (λ (w : Waits). length w.control) c.in_ok-put_all.ensures.ok,
      ap length (puts_control c.put.result.now c.args.queues.now),
      c.requires.room_control,
    )

pub take_back-requires : goal.take_back-requires
take_back-requires c =
    let same : c.put_messages.new.queues ≡ c.put_all.new.queues = search rules in
    let count : length c.put_messages.new.queues.lines ≡ length c.args.queues.now.lines =
    ap (λ (w : Waits). length w.lines) (same ∙ c.in_ok-put_all.ensures.ok) ∙ puts_count c.put.result.now c.args.queues.now in
    subst (AreKnown (length c.put_messages.new.queues.lines)) (sym c.put-then-is_err.ensures)
    (subst (λ (n : ℕ). AreKnown n c.args.made.now.step.put) (sym count) c.requires.known)
