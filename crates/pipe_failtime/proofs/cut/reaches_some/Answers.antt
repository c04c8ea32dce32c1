use Rattle.std.proofs.Common.{ℕ, ◌&&◌, sym, ◌∙◌, arith}
use Rattle.std.proofs.lemmas.Bool.{and_from}
use Rattle.pipe_graph.specs.Reach.{reaches}
use Rattle.pipe_graph.proofs.BelowLaws.{any_below_from}
use Rattle.pipe_topo.specs.Sets.{has}
use Rattle.pipe_failtime.proofs.cut.reaches_some.Goals as goal

pub returns-then-branch : goal.returns-then-branch
returns-then-branch c =
    let end = c.loop-end.end in
    let reached = λ (k : ℕ). reaches c.args.topology.now (has c.args.by.now) c.args.host.0 k in
    sym (any_below_from (λ (k : ℕ). has c.args.kept.now k && reached k) c.args.topology.now.hosts end (omega arith)
    (and_from (has c.args.kept.now end) (reached end) (sym c.has.ensures ∙ c.if-has.true) (sym c.in_ok-reaches.ensures ∙ c.if-branch.true)))
