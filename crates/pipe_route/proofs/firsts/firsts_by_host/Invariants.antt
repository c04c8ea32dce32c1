use Rattle.std.proofs.Common.{◌≡◌, ℕ, map}
use Rattle.std.specs.List.{range_with_len}
use Rattle.pipe_graph.specs.ShortestRoute.{firsts_of}
use Rattle.pipe_topo.specs.Sets.{lacks}
use Rattle.pipe_route.proofs.firsts.firsts_by_host.Given as goal

abbrev pub invariant-loop-host : goal.invariant-loop-host
invariant-loop-host l = l.links.items ≡ map (λ (dst : ℕ). firsts_of l.topology (lacks l.dropped) l.fn.node.0 dst) (range_with_len 0 l.host)
