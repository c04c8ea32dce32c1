use Rattle.std.proofs.Common.{length}
use Rattle.pipe_codec.proofs.ControlLaws.{LinksRead}
use Rattle.pipe_codec.proofs.control.read_links.Given as goal

abbrev pub invariant-links : goal.invariant-links
invariant-links l = LinksRead l.links l.rest l.fn.contents

abbrev pub decreases-links : goal.decreases-links
decreases-links l = length l.rest
