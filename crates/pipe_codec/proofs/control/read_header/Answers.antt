use Rattle.std.proofs.Common.{sym, ◌∙◌}
use Rattle.pipe_codec.proofs.ControlLaws.{fault-field, fault-length}
use Rattle.pipe_codec.proofs.control.read_header.Goals as goal

pub returns-then-not-length_fits : goal.returns-then-not-length_fits
returns-then-not-length_fits c =
    fault-field _ _ c.from-len.result c.in_ok-kind.ensures (c.from-len.ensures ∙ c.two_at.ensures) (sym c.length_fits.ensures ∙ c.if-not-length_fits.true)

pub returns-then-bytes-len : goal.returns-then-bytes-len
returns-then-bytes-len c =
    fault-length _ _ c.from-len.result c.in_ok-kind.ensures (c.from-len.ensures ∙ c.two_at.ensures) (sym c.length_fits.ensures ∙ c.if-not-length_fits.false) c.if-bytes-len.true
