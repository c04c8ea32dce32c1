use Rattle.pipe_text.proofs.BodyLaws.{read_more}
use Rattle.pipe_text.proofs.body.bytes_of.Goals as goal

pub pairs-preserved : goal.pairs-preserved
pairs-preserved c =
    read_more c.pairs.bytes.items c.push.new.self.items c.in-Some-first_byte.byte c.in-Some.high.now c.in-Some.tail.now
    c.in-Some-first_byte.after.now c.args.word.now c.pairs.rest.now
    c.pairs.invariant c.in-Some.ensures.cases.0 c.in-Some-first_byte.ensures.some c.in_ok-push.ensures.items
