use Rattle.std.proofs.Common.{Bool, false, List, sym, ap, ◌∙◌, arith}
use Rattle.std.proofs.lemmas.Bool.{le-ltb}
use Rattle.std.proofs.lemmas.List.{get_or_past}
use Rattle.pipe_topo.specs.Sets.{has}
use Rattle.pipe_topo.proofs.hosts.HostSet.has_node.Goals as goal

pub returns-else-node-lt64 : goal.returns-else-node-lt64
returns-else-node-lt64 c =
    let past = c.if-node-lt64.false in
    let size = c.copy-hosts.ensures.size in
    le-ltb c.args.node.0 64 past
    ∙ sym (get_or_past c.copy-hosts.result c.args.node.0 false (omega arith))
    ∙ ap (λ (hosts : List Bool). has hosts c.args.node.0) c.copy-hosts.ensures.value
