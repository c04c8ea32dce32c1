use Rattle.std.proofs.Common.{◌<◌, List, reverse, sym, subst}
use Rattle.pipe_graph.specs.Graph.{Graph}
use Rattle.pipe_host.specs.Host as hosts
use Rattle.pipe_model.specs.declared.record.Record.{Record}
use Rattle.pipe_model.specs.Acting.{own}
use Rattle.pipe_world.specs.declared.node.NodeState.{NodeState}
use Rattle.pipe_world.specs.World.{GraphAndTrace, HasHost}
use Rattle.pipe_world.proofs.WorldSteps.{has_host}
use Rattle.pipe_world.proofs.world.World.host.Goals as goal

pub host_in-requires : goal.host_in-requires
host_in-requires c =
    let graph : Graph = c.self.inside.topology in
    let past : List Record = reverse c.self.inside.history in
    let known : c.args.host.0 < graph.hosts = subst (λ (v : GraphAndTrace). c.args.host.0 < v.graph.hosts) (sym c.self.view_is) c.requires in
    let has : HasHost graph c.deref.result.now past c.args.host.0 =
    subst (λ (ns : List NodeState). HasHost graph ns past c.args.host.0) (sym c.deref.ensures.value)
    (has_host graph c.self.inside.nodes.items c.self.inside.queues past c.args.host.0 c.self.invariant.keeps known) in
    (graph, past, has)

pub returns : goal.returns
returns c =
    let graph : Graph = c.self.inside.topology in
    let past : List Record = reverse c.self.inside.history in
    let known : c.args.host.0 < graph.hosts = subst (λ (v : GraphAndTrace). c.args.host.0 < v.graph.hosts) (sym c.self.view_is) c.requires in
    let has : HasHost graph c.deref.result.now past c.args.host.0 =
    subst (λ (ns : List NodeState). HasHost graph ns past c.args.host.0) (sym c.deref.ensures.value)
    (has_host graph c.self.inside.nodes.items c.self.inside.queues past c.args.host.0 c.self.invariant.keeps known) in
    subst (λ (v : GraphAndTrace). hosts.Stands v.graph c.args.host.0 (own v.graph c.args.host.0 (reverse v.trace)) c.host_in.result.now) c.self.view_is
    (c.host_in.ensures graph past has)
