use Rattle.std.proofs.Common.{◌≡◌, ℕ, ◌+◌, ◌<◌, ◌&&◌, not, Bool, List, length, sym, subst, ap, ◌∙◌, arith}
use Rattle.pipe_graph.specs.Graph.{tail_of}
use Rattle.pipe_graph.specs.Useless.{is_useless}
use Rattle.pipe_topo.specs.Sets.{has}
use Rattle.pipe_failtime.specs.Filled.{IsFilled}
use Rattle.pipe_failtime.proofs.FilledLaws.{filled_in, filled_out}
use Rattle.pipe_failtime.proofs.UselessLaws.{useless_from}
use Rattle.pipe_failtime.proofs.links.useless_by.Goals as goal
use Rattle.pipe_failtime.proofs.links.useless_by.Goals.{then-is_useless, else-is_useless}

pub loop-link-preserved : goal.loop-link-preserved
loop-link-preserved c =
    let g = c.args.topology.now in
    let by = has c.args.by.now in
    let kept = has c.args.kept.now in
    let count : ℕ = length g.links in
    let link : ℕ = c.loop-link.link in
    let lt : link < count = omega (arith, c.loop-link-test.true, c.links-link-end.ensures.value) in
    let told : is_useless g by kept link ≡ c.is_useless.result =
    useless_from g by kept c.in_ok-fed.fed.items link c.is_useless.result c.in_ok-fed.ensures c.is_useless.ensures.tail
    (c.is_useless.ensures.value ∙ ap (λ (fed : List Bool). by link && not (has fed (tail_of g link))) c.deref.ensures.value) in
    elim c.if-is_useless.branch [
      | then-is_useless w ↦ subst (λ (s : List Bool). IsFilled s count (is_useless g by kept) (link + 1)) (sym (w.set-is ∙ w.insert.ensures))
          (filled_in c.loop-link.set count (is_useless g by kept) link c.loop-link.invariant lt (told ∙ w.if-is_useless.true))
      | else-is_useless w ↦ subst (λ (s : List Bool). IsFilled s count (is_useless g by kept) (link + 1)) (sym w.set-is)
          (filled_out c.loop-link.set count (is_useless g by kept) link c.loop-link.invariant (told ∙ w.if-is_useless.false))
    ]
