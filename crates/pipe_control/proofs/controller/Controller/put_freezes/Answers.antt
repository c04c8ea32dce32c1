use Rattle.std.proofs.Common.{◌+◌, ◌-◌, ◌<◌, ◌++◌, ◌∷◌, [], List, length, map, filter, sym, ap, ◌∙◌, arith}
use Rattle.std.specs.List.{range_with_len}
use Rattle.pipe_base.specs.declared.control.Addressed.{Addressed}
use Rattle.pipe_base.specs.declared.name.LinkId.{LinkId}
use Rattle.pipe_graph.specs.Graph.{link_id}
use Rattle.pipe_control.specs.Known.{view_of}
use Rattle.pipe_control.proofs.ListLaws.{from_next, turn_in, turn_out}
use Rattle.pipe_model.specs.Decision.{freeze, is_frozen}
use Rattle.pipe_control.proofs.controller.Controller.put_freezes.Goals.{then-is_frozen+in_ok-push, else-is_frozen}
use Rattle.pipe_control.proofs.controller.Controller.put_freezes.Goals as goal

pub loop-link-preserved : goal.loop-link-preserved
loop-link-preserved c =
    let g = c.args.topology.now in
    let v = view_of c.args.self.now in
    let test = c.loop-link-test.true in
    let end = c.links-link-end.ensures.value in
    let link = c.loop-link.link in
    let lt : link < length g.links = omega arith in
    let put = c.loop-link.put in
    let rest = map link_id (range_with_len (link + 1) (length g.links - (link + 1))) in
    let still = map (freeze g) (filter (is_frozen g v) rest) in
    let before = ap (λ (ls : List LinkId). put ++ map (freeze g) (filter (is_frozen g v) ls)) (from_next link_id link (length g.links) lt) in
    elim c.if-is_frozen.branch [
      | then-is_frozen+in_ok-push w ↦
          ap (λ (xs : List Addressed). xs ++ still) (w.put-is ∙ w.in_ok-push.ensures.ok ∙ ap (λ (a : Addressed). put ++ a ∷ []) w.freeze.ensures)
          ∙ sym (turn_in (freeze g) (is_frozen g v) put (link_id link) rest (sym c.is_frozen.ensures ∙ w.if-is_frozen.true))
          ∙ sym before ∙ c.loop-link.invariant
      | else-is_frozen w ↦
          ap (λ (xs : List Addressed). xs ++ still) w.put-is
          ∙ sym (turn_out (freeze g) (is_frozen g v) put (link_id link) rest (sym c.is_frozen.ensures ∙ w.if-is_frozen.false))
          ∙ sym before ∙ c.loop-link.invariant
    ]
