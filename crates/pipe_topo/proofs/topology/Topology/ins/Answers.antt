use Rattle.std.proofs.Common.{◌<◌, List, length, subst, sym}
use Rattle.pipe_base.specs.declared.name.LinkId.{LinkId}
use Rattle.pipe_graph.specs.Graph.{Graph}
use Rattle.pipe_topo.proofs.topology.Topology.ins.Goals as goal

pub returns-clause-some : goal.returns-clause-some
returns-clause-some c =
    let within = subst (λ (g : Graph). c.args.node.0 < g.nodes) (sym c.self.view_is) c.requires in
    subst (λ (ls : List LinkId). 0 < length ls) (sym c.ins.ensures.value) (c.self.invariant.ins c.args.node.0 within)
