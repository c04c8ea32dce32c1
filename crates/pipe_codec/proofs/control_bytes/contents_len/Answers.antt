use Rattle.std.proofs.Common.{ℕ, ◌*◌, sym, ap, ◌∙◌, length}
use Rattle.pipe_base.specs.declared.control.Control.{Control}
use Rattle.pipe_codec.specs.Control.{contents_bytes}
use Rattle.pipe_codec.proofs.ControlLaws.{length-announced, length-links}
use Rattle.pipe_codec.proofs.control_bytes.contents_len.Goals as goal

pub returns-in-Notice-clause-len : goal.returns-in-Notice-clause-len
returns-in-Notice-clause-len c =
    ap (λ (n : ℕ). 8 * n) c.len.ensures ∙ sym (length-announced c.in-Notice.list) ∙ sym (ap (λ (k : Control). length (contents_bytes k)) c.in-Notice.is)

pub returns-in-DropLinks-clause-len : goal.returns-in-DropLinks-clause-len
returns-in-DropLinks-clause-len c =
    ap (λ (n : ℕ). 2 * n) c.len-in-DropLinks.ensures ∙ sym (length-links c.in-DropLinks.links) ∙ sym (ap (λ (k : Control). length (contents_bytes k)) c.in-DropLinks.is)
