use Rattle.std.proofs.Common.{◌+◌, ℕ, get_or, take, refl, sym, subst}
use Rattle.pipe_graph.specs.Graph.{link_id}
use Rattle.pipe_topo.specs.Sets.{has}
use Rattle.pipe_route.specs.Firsts.{IsLeast}
use Rattle.pipe_route.proofs.FirstsLaws.{least_more, outs_begin}
use Rattle.pipe_route.proofs.firsts.least_distance.Goals as goal

pub loop-link-preserved : goal.loop-link-preserved
loop-link-preserved c =
    let links = c.outs-link-items.result.now in
    let l = (get_or links c.loop-link.link-index (link_id 0)).0 in
    subst (λ (nearest : ℕ). IsLeast c.args.topology.now (has c.args.by.now) c.args.away.now c.args.node.0 (take (c.loop-link.link-index + 1) links) nearest) (sym c.nearer-nearest.ensures)
    (least_more c.args.topology.now (has c.args.by.now) c.args.away.now c.args.node.0 c.loop-link.nearest links c.loop-link.link-index l c.loop-link.invariant c.loop-link-test.true refl
    (c.outs-link-items.ensures.known c.loop-link.link-index (link_id 0) c.loop-link-test.true)
    (outs_begin c.args.topology.now c.args.node.0 links c.outs-link-items.ensures.value c.loop-link.link-index c.loop-link-test.true))
