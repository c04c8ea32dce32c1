use Rattle.std.proofs.Common.{◌<◌, length, ap, Err}
use Rattle.pipe_base.specs.Limits.{most_body}
use Rattle.pipe_text.proofs.BodyLaws.{too_long}
use Rattle.pipe_text.proofs.body.read_body.Goals as goal

pub returns-in-Err-TooLong : goal.returns-in-Err-TooLong
returns-in-Err-TooLong c =
    let long : most_body < length c.in-Some.bytes.items
    = ((c.in-Err-TooLong.ensures.too_long c.in-Err-TooLong.field-0-0).0 (ap Err c.in-Err-TooLong.field-0-is)).0 in
    too_long c.args.word.now c.in-Some.bytes.items (rw c.in-Some.is at c.in_ok-bytes.ensures) long
