use Rattle.std.proofs.Common.{◌+◌, ◌-◌, ◌<◌, ◌++◌, List, length, map, filter, sym, ap, ◌∙◌, arith}
use Rattle.std.specs.List.{range_with_len}
use Rattle.pipe_base.specs.declared.name.LinkId.{LinkId}
use Rattle.pipe_graph.specs.Graph.{link_id}
use Rattle.pipe_control.specs.Known.{view_of}
use Rattle.pipe_control.proofs.ListLaws.{from_next, pass_in, pass_out}
use Rattle.pipe_model.specs.Decision.{is_dead}
use Rattle.pipe_control.proofs.controller.Controller.dead_links.Goals.{then-is_dead+in_ok-push, else-is_dead}
use Rattle.pipe_control.proofs.controller.Controller.dead_links.Goals as goal

pub loop-link-preserved : goal.loop-link-preserved
loop-link-preserved c =
    let g = c.args.topology.now in
    let v = view_of c.args.self.now in
    let test = c.loop-link-test.true in
    let end = c.links-link-end.ensures.value in
    let link = c.loop-link.link in
    let lt : link < length g.links = omega arith in
    let dead = c.loop-link.dead in
    let rest = map link_id (range_with_len (link + 1) (length g.links - (link + 1))) in
    let dies = λ (l : LinkId). is_dead g v l.0 in
    let still = filter dies rest in
    let before = ap (λ (ls : List LinkId). dead ++ filter dies ls) (from_next link_id link (length g.links) lt) in
    elim c.if-is_dead.branch [
      | then-is_dead+in_ok-push w ↦
          ap (λ (xs : List LinkId). xs ++ still) (w.dead-is ∙ w.in_ok-push.ensures.ok)
          ∙ sym (pass_in dies dead (link_id link) rest (sym c.is_dead.ensures ∙ w.if-is_dead.true))
          ∙ sym before ∙ c.loop-link.invariant
      | else-is_dead w ↦
          ap (λ (xs : List LinkId). xs ++ still) w.dead-is
          ∙ sym (pass_out dies dead (link_id link) rest (sym c.is_dead.ensures ∙ w.if-is_dead.false))
          ∙ sym before ∙ c.loop-link.invariant
    ]
