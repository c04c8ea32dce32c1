use Rattle.std.proofs.Common.{◌≡◌, ℕ, ◌==◌, ◌&&◌, ◌||◌, Bool, sym, ap, ◌∙◌, arith}
use Rattle.std.proofs.lemmas.Bool.{and_from}
use Rattle.pipe_graph.specs.Graph.{is_half}
use Rattle.pipe_graph.specs.Reach.{reaches}
use Rattle.pipe_graph.proofs.BelowLaws.{any_below_from}
use Rattle.pipe_topo.specs.Sets.{has}
use Rattle.pipe_failtime.proofs.links.is_fed_from.Goals as goal

pub returns-then-is_at : goal.returns-then-is_at
returns-then-is_at c =
    let g = c.args.topology.now in
    let node = c.args.node.0 in
    let host = c.loop-host.host in
    let kept = has c.args.kept.now in
    let by = has c.args.by.now in
    let feeds : ℕ → Bool = λ h. (h == node) || (is_half g node && reaches g by h node) in
    let is : c.is_at.result ≡ feeds host =
    c.is_at.ensures ∙ ap (λ (there : Bool). (host == node) || (is_half g node && there)) (c.in_ok-reachers.ensures.below host (omega arith)) in
    sym (any_below_from (λ (h : ℕ). kept h && feeds h) g.hosts host (omega arith)
    (and_from (kept host) (feeds host) (sym c.has.ensures ∙ c.if-has.true) (sym is ∙ c.if-is_at.true)))
