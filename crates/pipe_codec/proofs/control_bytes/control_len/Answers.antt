use Rattle.std.proofs.Common.{arith}
use Rattle.pipe_codec.proofs.ControlLaws.{length-bytes}
use Rattle.pipe_codec.proofs.control_bytes.control_len.Goals as goal

pub returns : goal.returns
returns c = omega (arith, length-bytes c.args.a.now, c.contents_len.ensures.len)
