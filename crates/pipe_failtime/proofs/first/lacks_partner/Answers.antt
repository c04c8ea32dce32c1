use Rattle.std.proofs.Common.{ℕ, ◌&&◌, not, sym, ◌∙◌, arith}
use Rattle.std.proofs.lemmas.Bool.{and_from, not_from_false}
use Rattle.pipe_graph.proofs.BelowLaws.{any_below_from}
use Rattle.pipe_topo.specs.Sets.{has}
use Rattle.pipe_graph.specs.Doomed.{are_partners}
use Rattle.pipe_failtime.proofs.first.lacks_partner.Goals as goal

pub returns-then-not-are_partners : goal.returns-then-not-are_partners
returns-then-not-are_partners c =
    let g = c.args.reach.now in
    let other = c.loop-other.other in
    sym (any_below_from (λ (b : ℕ). has c.args.left.now b && not (are_partners g.graph (has g.by) c.args.host b)) g.graph.hosts other (omega arith)
    (and_from (has c.args.left.now other) (not (are_partners g.graph (has g.by) c.args.host other)) (sym c.has.ensures ∙ c.if-has.true)
    (not_from_false (are_partners g.graph (has g.by) c.args.host other) (sym c.are_partners.ensures ∙ c.if-not-are_partners.true))))
