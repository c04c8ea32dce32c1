use Rattle.std.proofs.Common.{length, take}
use Rattle.pipe_links.specs.Ways.{IsSetOf}
use Rattle.pipe_links.proofs.ways.set_of.Given as goal

abbrev pub invariant-entries : goal.invariant-entries
invariant-entries l = IsSetOf (length l.topology.links) (take l.link-index l.entries) l.set
