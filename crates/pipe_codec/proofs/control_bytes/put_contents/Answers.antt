use Rattle.std.proofs.Common.{length, ap, ◌∙◌, arith}
use Rattle.pipe_base.specs.declared.control.Control.{Control}
use Rattle.pipe_codec.specs.Control.{contents_bytes}
use Rattle.pipe_codec.proofs.ControlLaws.{length-announced, length-links}
use Rattle.pipe_codec.proofs.control_bytes.put_contents.Goals as goal

pub put_announced-requires : goal.put_announced-requires
put_announced-requires c =
    let len = ap (λ (k : Control). length (contents_bytes k)) c.in-Notice.is ∙ length-announced c.in-Notice.list in
    omega (arith, c.requires, len, ap length c.as_slice.ensures)

pub put_links-requires : goal.put_links-requires
put_links-requires c =
    let len = ap (λ (k : Control). length (contents_bytes k)) c.in-DropLinks.is ∙ length-links c.in-DropLinks.links in
    omega (arith, c.requires, len, ap length c.as_slice-in-DropLinks.ensures)
