use Rattle.std.proofs.Common.{◌∙◌, arith}
use Rattle.pipe_codec.specs.Control.{link_bytes}
use Rattle.pipe_codec.proofs.ControlLaws.{size-link}
use Rattle.pipe_codec.proofs.ItemLaws.{put-more}
use Rattle.pipe_codec.proofs.control_bytes.put_links.Goals as goal

pub links-preserved : goal.links-preserved
links-preserved c =
    c.put.ensures ∙ put-more link_bytes 2 size-link c.args.links.now c.links.i (record { 0 = 0 })
    c.args.out.now c.links.out c.to_be_bytes.result c.links-test.true (omega (arith, c.requires)) c.to_be_bytes.ensures c.links.invariant
