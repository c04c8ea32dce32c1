use Rattle.std.proofs.Common.{arith, refl, codes}
use Rattle.pipe_text_schedule.proofs.PlainLaws.{first_if_plain, five_first, take_word, tick_word}
use Rattle.pipe_text_schedule.proofs.plain.read_plain_line.Goals as goal

pub returns-in-116-clause-event : goal.returns-in-116-clause-event
returns-in-116-clause-event c =
    first_if_plain c.args.topology.now c.args.names.now (codes "take") c.args.text.now _ c.read_plain_take.result take_word refl
    (five_first c.args.text.now 116 97 107 101 32 c.in-116.len_at_least (omega arith) (omega arith) (omega arith) (omega arith) (omega arith))
    (c.read_plain_take.ensures.event c.args.names.now)

pub returns-in-116-2-clause-event : goal.returns-in-116-2-clause-event
returns-in-116-2-clause-event c =
    first_if_plain c.args.topology.now c.args.names.now (codes "tick") c.args.text.now _ c.read_plain_tick.result tick_word refl
    (five_first c.args.text.now 116 105 99 107 32 c.in-116-2.len_at_least (omega arith) (omega arith) (omega arith) (omega arith) (omega arith))
    c.read_plain_tick.ensures.event
