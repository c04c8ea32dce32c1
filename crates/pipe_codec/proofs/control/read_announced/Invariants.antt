use Rattle.std.proofs.Common.{length}
use Rattle.pipe_codec.proofs.ControlLaws.{AnnouncedRead}
use Rattle.pipe_codec.proofs.control.read_announced.Given as goal

abbrev pub invariant-entries : goal.invariant-entries
invariant-entries l = AnnouncedRead l.list l.rest l.fn.contents

abbrev pub decreases-entries : goal.decreases-entries
decreases-entries l = length l.rest
