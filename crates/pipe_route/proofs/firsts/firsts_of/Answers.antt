use Rattle.std.proofs.Common.{◌≡◌, filter, take, ◌∙◌}
use Rattle.std.proofs.lemmas.List.{take_all}
use Rattle.pipe_base.specs.declared.name.LinkId.{LinkId}
use Rattle.pipe_graph.specs.Graph.{outs_of}
use Rattle.pipe_topo.specs.Sets.{has}
use Rattle.pipe_route.specs.Firsts.{is_first}
use Rattle.pipe_route.proofs.FirstsLaws.{firsts_are}
use Rattle.pipe_route.proofs.firsts.firsts_of.Goals as goal

pub returns : goal.returns
returns c =
    let whole : take c.loop-link.link-index c.outs-outs.result.now ≡ outs_of c.args.topology.now c.args.node.0 =
    take_all c.loop-link.link-index c.outs-outs.result.now c.loop-link-test.false ∙ c.outs-outs.ensures.value in
    c.loop-link.invariant
    ∙ (λ i. filter (λ (k : LinkId). is_first c.args.topology.now (has c.args.by.now) (c.away.view_is i) c.least_distance-nearest.result k.0) (whole i))
    ∙ firsts_are c.args.topology.now (has c.args.by.now) c.args.node.0 c.args.dst.0 c.least_distance-nearest.result c.in_ok-away.away c.to.ensures.graph c.to.ensures.few c.in_ok-away.ensures.right c.least_distance-nearest.ensures
