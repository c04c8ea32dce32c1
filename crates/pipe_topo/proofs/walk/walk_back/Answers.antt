use Rattle.std.proofs.Common.{◌≡◌, ℕ, ◌∷◌, ◌++◌, [], List, set, replicate, length, subst, ap, sym, ◌∙◌, arith}
use Rattle.std.proofs.lemmas.List.{take_at, nil_from_length}
use Rattle.pipe_base.specs.declared.name.NodeId.{NodeId}
use Rattle.pipe_topo.specs.Sets.{has}
use Rattle.pipe_topo.specs.Walk.{IsWalk, far, node_id}
use Rattle.pipe_topo.proofs.WalkLaws.{walk_start, walk_is_right}
use Rattle.pipe_topo.proofs.walk.walk_back.Goals as goal

pub loop-node-init : goal.loop-node-init
loop-node-init c =
    let nodes : c.from.result ≡ c.args.wiring.now.nodes = c.from.ensures ∙ c.nodes.ensures.value in
    let away : set (replicate c.args.wiring.now.nodes far) c.args.to.0 0 ≡ set c.in_ok-away.away.items c.from-2.result 0 =
    sym (ap (λ (xs : List ℕ). set xs c.from-2.result 0) (c.in_ok-away.ensures.items_if_clones_equal (λ y e. e))
    ∙ (λ i. set (replicate (nodes i) far) (c.from-2.ensures i) 0)) in
    let queue : node_id c.args.to.0 ∷ [] ≡ c.push_back.new.self.items =
    sym (c.in_ok-push_back.ensures.items ∙ ap (λ (q : List NodeId). q ++ c.args.to ∷ []) c.in_ok-queue.ensures.items) in
    subst (λ (p : List ℕ × List NodeId). IsWalk c.args.wiring.now (has c.args.by.now) c.args.to.0 p.0 p.1) (λ i. (away i, queue i))
    (walk_start c.args.wiring.now (has c.args.by.now) c.args.to.0 c.requires.node)

pub loop-node-preserved : goal.loop-node-preserved
loop-node-preserved c =
    let size : length c.look_back.new.away ≡ c.loop-node.away.len = c.look_back.auto.away ∙ c.deref_mut.ensures.len in
    let before : IsWalk c.args.wiring.now (has c.args.by.now) c.args.to.0 c.deref_mut.result.now (c.in-Some.node ∷ c.pop_front.new.self.items) =
    subst (λ (p : List ℕ × List NodeId). IsWalk c.args.wiring.now (has c.args.by.now) c.args.to.0 p.0 p.1)
    (λ i. (sym c.deref_mut.ensures.value i, c.in-Some.ensures.items i)) c.loop-node.invariant in
    subst (λ (xs : List ℕ). IsWalk c.args.wiring.now (has c.args.by.now) c.args.to.0 xs c.look_back.new.queue.items)
    (sym (take_at c.look_back.new.away _ c.loop-node.away.len size))
    (c.in_ok-look_back.ensures.walk c.args.to.0 before)

pub returns-clause-right : goal.returns-clause-right
returns-clause-right c =
    let empty : c.loop-node.queue.items ≡ [] = nil_from_length c.loop-node.queue.items (omega (arith, c.in_default.ensures.cases)) in
    walk_is_right c.args.wiring.now (has c.args.by.now) c.args.to.0 c.loop-node.away.items
    (subst (λ (q : List NodeId). IsWalk c.args.wiring.now (has c.args.by.now) c.args.to.0 c.loop-node.away.items q) empty c.loop-node.invariant)
