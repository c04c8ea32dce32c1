use Rattle.std.proofs.Common.{◌≡◌, ℕ, ◌+◌, ◌<◌, false, List, [], ◌∷◌, ◌++◌, length, length-append, refl, inl, inr, subst, sym, ap, arith}
use Rattle.std.specs.Prelude.{slice_index_or}
use Rattle.std.proofs.lemmas.Bool.{cases_lt}
use Rattle.std.proofs.lemmas.List.{get_or_append_left, get_or_push}
use Rattle.pipe_graph.specs.Graph.{Graph}
use Rattle.pipe_world.specs.declared.node.NodeState.{NodeState}
use Rattle.pipe_world.specs.Node as node
use Rattle.pipe_world.proofs.world.fresh_nodes.Goals as goal

-- one node more stands at its place
one_more : (graph : Graph) (nodes : List NodeState) (state : NodeState) (id n : ℕ) (d : NodeState) → length nodes ≡ id
    → ((m : ℕ) (e : NodeState) → m < id → node.StandsIn graph m [] (slice_index_or nodes m e)) → node.StandsIn graph id [] state → n < id + 1
    → node.StandsIn graph n [] (slice_index_or (nodes ++ state ∷ []) n d)
one_more graph nodes state id n d count before new lt = elim (cases_lt n id) [
  | inl early ↦
      subst (node.StandsIn graph n []) (sym (get_or_append_left nodes (state ∷ []) d n (omega (arith, early, count)))) (before n d early)
  | inr late ↦
      let same : n ≡ id = omega (arith, late, lt) in
      subst (λ (m : ℕ). node.StandsIn graph m [] (slice_index_or (nodes ++ state ∷ []) m d)) (sym same)
      (subst (node.StandsIn graph id []) (sym (get_or_push nodes state d id count)) new)
]

pub nodes-preserved : goal.nodes-preserved
nodes-preserved c =
    let graph : Graph = c.args.topology.now in
    let state : NodeState = record { node = c.in_ok-node.node; crashed = false } in
    record {
      count = omega (arith, ap {B = ℕ} length c.in_ok-push.ensures.items, length-append c.nodes.nodes.items (state ∷ []), c.nodes.invariant.count);
      stand = λ n d lt.
          subst (λ (nodes : List NodeState). node.StandsIn graph n [] (slice_index_or nodes n d)) (sym c.in_ok-push.ensures.items)
          (one_more graph c.nodes.nodes.items state c.nodes.id n d c.nodes.invariant.count c.nodes.invariant.stand
          (record { node_stands = c.in_ok-node.ensures; crashed_is = refl }) lt);
    }
