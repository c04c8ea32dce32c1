use Rattle.std.proofs.Common.{◌<◌, List, length, reverse, sym, subst, ap, ◌∙◌, arith}
use Rattle.pipe_base.specs.declared.packet.Packet.{Packet}
use Rattle.pipe_graph.specs.Graph.{Graph}
use Rattle.pipe_model.specs.declared.record.Record.{Record}
use Rattle.pipe_model.specs.Waiting.{waiting_on}
use Rattle.pipe_world.specs.World.{GraphAndTrace}
use Rattle.pipe_world.proofs.WaitingLists.{waits_there}
use Rattle.pipe_world.proofs.world.World.waiting.Goals as goal

pub waiting-requires : goal.waiting-requires
waiting-requires c =
    let known : c.args.link.0 < length c.self.inside.topology.links = subst (λ (v : GraphAndTrace). c.args.link.0 < length v.graph.links) (sym c.self.view_is) c.requires in
    omega (arith, known, c.self.invariant.keeps.queues_are.count)

pub returns : goal.returns
returns c =
    let graph : Graph = c.self.inside.topology in
    let past : List Record = reverse c.self.inside.history in
    let link = c.args.link.0 in
    let known : link < length graph.links = subst (λ (v : GraphAndTrace). link < length v.graph.links) (sym c.self.view_is) c.requires in
    c.waiting.ensures
    ∙ ap (λ (ps : List Packet). length ps) (waits_there graph c.self.inside.queues past link c.self.invariant.keeps.queues_are known)
    ∙ ap (λ (v : GraphAndTrace). length (waiting_on link (reverse v.trace))) c.self.view_is
