use Rattle.std.proofs.Common.{◌≡◌, filter, take}
use Rattle.pipe_base.specs.declared.name.LinkId.{LinkId}
use Rattle.pipe_topo.specs.Sets.{lacks}
use Rattle.pipe_links.proofs.ways.kept_among.Given as goal

abbrev pub invariant-links : goal.invariant-links
invariant-links l = l.kept ≡ filter (λ (k : LinkId). lacks l.dropped k.0) (take l.link-index l.links)
