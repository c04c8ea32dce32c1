use Rattle.std.proofs.Common.{◌≡◌, ◌<◌, ◌≤◌, Bool, true, List, length, sym, ap, ◌∙◌, arith}
use Rattle.pipe_control.proofs.CountLaws.{both, counts_more, within}
use Rattle.pipe_topo.specs.Sets.{has}
use Rattle.pipe_control.proofs.heard.note_done.Goals as goal

pub returns-then-from-most-clause-value : goal.returns-then-from-most-clause-value
returns-then-from-most-clause-value c =
    let members = c.args.members.now in
    let host = c.args.host.0 in
    let is : has c.copy-members.result host ≡ true = sym c.has_node.ensures ∙ c.if-has_node.true in
    let member : has members host ≡ true = ap (λ (xs : List Bool). has xs host) (sym c.copy-members.ensures.value) ∙ is in
    let below = within c.copy-members.result host is in
    let size = c.copy-members.ensures.size in
    let counts = c.requires in
    let lt : host < length c.args.done.now = omega (arith, below, size, counts) in
    let few = c.if-from-most.true in
    let same = c.from.ensures in
    let le : c.args.count ≤ c.args.most = omega (arith, few, same) in
    counts_more (has members host) c.args.most host c.args.count c.args.done.now c.raise.new.self lt (both (has members host) c.args.count c.args.most member le) c.raise.ensures
