use Rattle.std.proofs.Common.{◌≡◌, ◌<◌, List, true, reverse, sym, subst}
use Rattle.pipe_graph.specs.Graph.{Graph, is_half}
use Rattle.pipe_switch.specs.Half as halves
use Rattle.pipe_model.specs.declared.record.Record.{Record}
use Rattle.pipe_model.specs.Acting.{own}
use Rattle.pipe_world.specs.declared.node.NodeState.{NodeState}
use Rattle.pipe_world.specs.World.{GraphAndTrace, HasHalf}
use Rattle.pipe_world.proofs.WorldSteps.{has_half}
use Rattle.pipe_world.proofs.world.World.half.Goals as goal

pub half_in-requires : goal.half_in-requires
half_in-requires c =
    let graph : Graph = c.self.inside.topology in
    let past : List Record = reverse c.self.inside.history in
    let known : c.args.node.0 < graph.nodes = subst (λ (v : GraphAndTrace). c.args.node.0 < v.graph.nodes) (sym c.self.view_is) c.requires.node in
    let is : is_half graph c.args.node.0 ≡ true = subst (λ (v : GraphAndTrace). is_half v.graph c.args.node.0 ≡ true) (sym c.self.view_is) c.requires.half in
    let has : HasHalf graph c.deref.result.now past c.args.node.0 =
    subst (λ (ns : List NodeState). HasHalf graph ns past c.args.node.0) (sym c.deref.ensures.value)
    (has_half graph c.self.inside.nodes.items c.self.inside.queues past c.args.node.0 c.self.invariant.keeps known is) in
    (graph, past, has)

pub returns : goal.returns
returns c =
    let graph : Graph = c.self.inside.topology in
    let past : List Record = reverse c.self.inside.history in
    let known : c.args.node.0 < graph.nodes = subst (λ (v : GraphAndTrace). c.args.node.0 < v.graph.nodes) (sym c.self.view_is) c.requires.node in
    let is : is_half graph c.args.node.0 ≡ true = subst (λ (v : GraphAndTrace). is_half v.graph c.args.node.0 ≡ true) (sym c.self.view_is) c.requires.half in
    let has : HasHalf graph c.deref.result.now past c.args.node.0 =
    subst (λ (ns : List NodeState). HasHalf graph ns past c.args.node.0) (sym c.deref.ensures.value)
    (has_half graph c.self.inside.nodes.items c.self.inside.queues past c.args.node.0 c.self.invariant.keeps known is) in
    subst (λ (v : GraphAndTrace). halves.Stands v.graph c.args.node.0 (own v.graph c.args.node.0 (reverse v.trace)) c.half_in.result.now) c.self.view_is
    (c.half_in.ensures graph past has)
