use Rattle.std.proofs.Common.{◌≡◌, ◌∷◌, ◌++◌, length, sym}
use Rattle.pipe_text_schedule.proofs.PlainLaws.{some_bytes, tick_plain}
use Rattle.pipe_text_schedule.proofs.plain.read_plain_tick.Goals as goal

pub returns-clause-event : goal.returns-clause-event
returns-clause-event c =
    let cut = c.in_ok-node.ensures.some in
    let now = c.in_ok-now.ensures.some in
    let split : c.args.text.now ≡ c.in_ok-node.node.now ++ 32 ∷ c.in_ok-node.rest.now = cc (cut.0, c.if-stop-ne32.false) in
    tick_plain c.args.topology.now c.args.names.now c.args.text.now c.in_ok-node.rest.now c.in_ok-now.rest.now c.in_ok-node.node.now now.0 c.in_ok-node-2.node.0 c.in_ok-now.now
    split (cut.1, some_bytes (length c.in_ok-node.node.now) (sym c.if-is_empty.ensures)) c.in_ok-node-2.ensures.node now.1 (rw c.top.ensures.value at now.2)
