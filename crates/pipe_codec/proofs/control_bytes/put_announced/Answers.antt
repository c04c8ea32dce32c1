use Rattle.std.proofs.Common.{◌∙◌, arith}
use Rattle.pipe_codec.specs.Control.{announced_bytes}
use Rattle.pipe_codec.proofs.ControlLaws.{size-announced}
use Rattle.pipe_codec.proofs.ItemLaws.{put-more}
use Rattle.pipe_codec.proofs.control_bytes.put_announced.Goals as goal

pub entries-preserved : goal.entries-preserved
entries-preserved c =
    c.put.ensures ∙ put-more announced_bytes 8 size-announced c.args.list.now c.entries.i (record { host = record { 0 = 0 }; time = record { 0 = 0 } })
    c.args.out.now c.entries.out c.timed.result c.entries-test.true (omega (arith, c.requires)) c.timed.ensures c.entries.invariant
