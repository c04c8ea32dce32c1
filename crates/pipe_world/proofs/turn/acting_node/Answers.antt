use Rattle.std.proofs.Common.{sym}
use Rattle.pipe_world.proofs.ActsAt.{acts_at, acts_known}
use Rattle.pipe_world.proofs.turn.acting_node.Goals as goal

pub returns-clause-acts : goal.returns-clause-acts
returns-clause-acts c =
    acts_at c.args.topology.now c.args.event.now c.args.took.now c.acting_node.result c.requires.undecided c.requires.item
    (λ n. c.acting_node.ensures c.args.topology.now n (sym c.ends.ensures))

pub returns-clause-known : goal.returns-clause-known
returns-clause-known c =
    acts_known c.args.topology.now c.args.event.now c.args.took.now c.acting_node.result c.requires.graph c.requires.event c.requires.known (returns-clause-acts c)
