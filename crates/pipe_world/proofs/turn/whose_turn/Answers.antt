use Rattle.std.proofs.Common.{◌≡◌, true, sym, subst}
use Rattle.std.specs.List.{All}
use Rattle.std.specs.Prelude.{slice_index_or}
use Rattle.pipe_graph.specs.Graph.{Graph}
use Rattle.pipe_net.specs.Waits.{Waits}
use Rattle.pipe_world.specs.Turn.{IsFound, IsTurn, ReachesKnown}
use Rattle.pipe_world.specs.World.{Keeps}
use Rattle.pipe_world.proofs.Messages.{GoesToKnown, messages_known, taken_known}
use Rattle.pipe_world.proofs.Passing.{passes_crashed, passes_missing}
use Rattle.pipe_world.proofs.turn.whose_turn.Goals as goal

pub acting_node-requires-clause-known : goal.acting_node-requires-clause-known
acting_node-requires-clause-known c =
    let graph : Graph = c.args.topology.now in
    let waits : Waits = c.args.queues.now in
    let keeps : Keeps graph c.args.nodes.now waits c.requires.keeps.0 = c.requires.keeps.1 in
    subst (ReachesKnown graph) (sym (subst (IsFound c.args.queues.now c.args.event.now) c.in-Some.is c.in_ok-took.ensures.found).1)
    (taken_known graph waits c.args.event.now (subst (All (GoesToKnown graph)) (sym keeps.queues_are.control_is) (messages_known graph keeps.is_graph c.requires.keeps.0 keeps.rules)))

pub returns-in_default-clause-turn : goal.returns-in_default-clause-turn
returns-in_default-clause-turn c =
    let graph : Graph = c.args.topology.now in
    let waits : Waits = c.args.queues.now in
    let keeps : Keeps graph c.args.nodes.now waits c.requires.keeps.0 = c.requires.keeps.1 in
    subst (IsTurn graph c.args.nodes.now waits c.args.event.now) (sym c.idle.ensures)
    (passes_missing graph c.args.nodes.now c.requires.keeps.0 waits c.args.event.now keeps.queues_are c.requires.event c.requires.undecided
    (subst (IsFound waits c.args.event.now) c.in_default.is c.in_ok-took.ensures.found))

pub returns-in-Some-acting_node-clause-turn : goal.returns-in-Some-acting_node-clause-turn
returns-in-Some-acting_node-clause-turn c =
    let graph : Graph = c.args.topology.now in
    let waits : Waits = c.args.queues.now in
    let keeps : Keeps graph c.args.nodes.now waits c.requires.keeps.0 = c.requires.keeps.1 in
    let gone : (slice_index_or c.args.nodes.now c.in-Some-acting_node.id.0 c.index-nodes-id.result).crashed ≡ true = c.if-nodes-id.true in
    subst (IsTurn graph c.args.nodes.now waits c.args.event.now) (sym c.idle-in-Some-acting_node.ensures)
    (passes_crashed graph c.args.nodes.now c.requires.keeps.0 waits c.args.event.now c.in-Some-acting_node.id c.in-Some.took c.index-nodes-id.result
    keeps.queues_are c.requires.event c.requires.undecided c.in-Some-acting_node.ensures.acts (subst (IsFound c.args.queues.now c.args.event.now) c.in-Some.is c.in_ok-took.ensures.found).1 (subst (IsFound c.args.queues.now c.args.event.now) c.in-Some.is c.in_ok-took.ensures.found).0
    c.in-Some-acting_node.ensures.known gone)
