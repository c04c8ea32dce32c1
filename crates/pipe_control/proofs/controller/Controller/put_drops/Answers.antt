use Rattle.std.proofs.Common.{◌+◌, ◌-◌, ◌<◌, ◌++◌, ◌∷◌, [], List, map, filter, sym, ap, ◌∙◌, arith}
use Rattle.std.specs.List.{range_with_len}
use Rattle.pipe_base.specs.declared.control.Addressed.{Addressed}
use Rattle.pipe_base.specs.declared.name.NodeId.{NodeId}
use Rattle.pipe_control.specs.Known.{view_of}
use Rattle.pipe_control.proofs.ListLaws.{from_next, turn_in, turn_out}
use Rattle.pipe_model.specs.Decision.{drop_links, lags, node_id}
use Rattle.pipe_control.proofs.controller.Controller.put_drops.Goals.{then-lags+in_ok-drop_links+in_ok-push, else-lags}
use Rattle.pipe_control.proofs.controller.Controller.put_drops.Goals as goal

pub loop-node-preserved : goal.loop-node-preserved
loop-node-preserved c =
    let g = c.args.topology.now in
    let v = view_of c.args.self.now in
    let test = c.loop-node-test.true in
    let end = c.nodes-node-end.ensures.value in
    let node = c.loop-node.node in
    let lt : node < g.nodes = omega arith in
    let put = c.loop-node.put in
    let rest = map node_id (range_with_len (node + 1) (g.nodes - (node + 1))) in
    let tells = λ (n : NodeId). lags g v n.0 in
    let still = map (drop_links v) (filter tells rest) in
    let before = ap (λ (ns : List NodeId). put ++ map (drop_links v) (filter tells ns)) (from_next node_id node g.nodes lt) in
    elim c.if-lags.branch [
      | then-lags+in_ok-drop_links+in_ok-push w ↦
          ap (λ (xs : List Addressed). xs ++ still) (w.put-is ∙ w.in_ok-push.ensures.ok ∙ ap (λ (a : Addressed). put ++ a ∷ []) w.in_ok-drop_links.ensures)
          ∙ sym (turn_in (drop_links v) tells put (node_id node) rest (sym c.lags.ensures ∙ w.if-lags.true))
          ∙ sym before ∙ c.loop-node.invariant
      | else-lags w ↦
          ap (λ (xs : List Addressed). xs ++ still) w.put-is
          ∙ sym (turn_out (drop_links v) tells put (node_id node) rest (sym c.lags.ensures ∙ w.if-lags.false))
          ∙ sym before ∙ c.loop-node.invariant
    ]
