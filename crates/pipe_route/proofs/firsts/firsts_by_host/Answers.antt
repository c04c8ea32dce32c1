use Rattle.std.proofs.Common.{◌∙◌}
use Rattle.pipe_graph.proofs.RouteLaws.{firsts_alike}
use Rattle.pipe_topo.specs.Sets.{has, lacks}
use Rattle.pipe_route.proofs.FirstsLaws.{rest_lacks, hosts_more}
use Rattle.pipe_route.proofs.firsts.firsts_by_host.Goals as goal

pub loop-host-preserved : goal.loop-host-preserved
loop-host-preserved c =
    let alike = rest_lacks c.args.topology.now c.args.dropped.now c.in_ok-kept.kept c.in_ok-kept.ensures c.requires.links in
    hosts_more c.args.topology.now (lacks c.args.dropped.now) c.args.node.0 c.loop-host.host c.loop-host.links.items c.push.new.self.items c.in_ok-firsts_of.field-0
    c.loop-host.invariant c.in_ok-push.ensures.items
    (c.in_ok-firsts_of.ensures ∙ firsts_alike c.args.topology.now (has c.in_ok-kept.kept) (lacks c.args.dropped.now) c.args.node.0 c.loop-host.host alike)
