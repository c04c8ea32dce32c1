use Rattle.std.proofs.Common.{◌≡◌, filter, take}
use Rattle.pipe_base.specs.declared.name.LinkId.{LinkId}
use Rattle.pipe_topo.specs.Sets.{has}
use Rattle.pipe_route.specs.Firsts.{is_first}
use Rattle.pipe_route.proofs.firsts.firsts_of.Given as goal

abbrev pub invariant-loop-link : goal.invariant-loop-link
invariant-loop-link l = l.firsts ≡ filter (λ (k : LinkId). is_first l.topology (has l.by) l.away-inside.away.items l.nearest k.0) (take l.link-index l.outs)
