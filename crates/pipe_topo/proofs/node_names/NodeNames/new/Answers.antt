use Rattle.std.proofs.Common.{◌++◌, ◌∷◌, [], ℕ, List, codes, ap, ◌∙◌, arith}
use Rattle.std.specs.List.{list_any}
use Rattle.std.specs.Str.{bytes_eq}
use Rattle.pipe_topo.proofs.NodeNameLaws.{next_of, host_is_new, half_is_new, other_is_new, host_added, switch_added}
use Rattle.pipe_topo.proofs.node_names.NodeNames.new.Goals as goal
use Rattle.pipe_topo.proofs.node_names.NodeNames.new.Goals.{then-at-hosts+in_ok-format+in_ok-add, else-at-hosts+in_ok-format-2+in_ok-add-2+in_ok-format-3+in_ok-add-3}

pub add-requires : goal.add-requires
add-requires c =
    let next = next_of c.loop-at-test.true c.len-at-end.ensures.value c.len-at-end.ensures.different c.requires c.loop-at.invariant c.name-name.ensures in
    record { new = ap (λ (n : List ℕ). list_any (bytes_eq n) c.loop-at.nodes) c.in_ok-format.ensures.ok ∙ host_is_new next c.if-at-hosts.true }

pub add-requires-else-at-hosts : goal.add-requires-else-at-hosts
add-requires-else-at-hosts c =
    let next = next_of c.loop-at-test.true c.len-at-end.ensures.value c.len-at-end.ensures.different c.requires c.loop-at.invariant c.name-name.ensures in
    record { new = ap (λ (n : List ℕ). list_any (bytes_eq n) c.loop-at.nodes) c.in_ok-format-2.ensures.ok ∙ half_is_new (codes "up") next }

pub add-requires-else-at-hosts-2 : goal.add-requires-else-at-hosts-2
add-requires-else-at-hosts-2 c =
    let next = next_of c.loop-at-test.true c.len-at-end.ensures.value c.len-at-end.ensures.different c.requires c.loop-at.invariant c.name-name.ensures in
    let up = c.in_ok-add-2.ensures ∙ ap (λ (n : List ℕ). c.loop-at.nodes ++ n ∷ []) c.in_ok-format-2.ensures.ok in
    record { new = (λ i. list_any (bytes_eq (c.in_ok-format-3.ensures.ok i)) (up i)) ∙ other_is_new next }

pub loop-at-preserved : goal.loop-at-preserved
loop-at-preserved c =
    let next = next_of c.loop-at-test.true c.len-at-end.ensures.value c.len-at-end.ensures.different c.requires c.loop-at.invariant c.name-name.ensures in
    elim c.if-at-hosts.branch [
      | then-at-hosts+in_ok-format+in_ok-add w ↦
          w.nodes-is ∙ w.in_ok-add.ensures ∙ ap (λ (n : List ℕ). c.loop-at.nodes ++ n ∷ []) w.in_ok-format.ensures.ok ∙ host_added next w.if-at-hosts.true
      | else-at-hosts+in_ok-format-2+in_ok-add-2+in_ok-format-3+in_ok-add-3 w ↦
          let up = w.in_ok-add-2.ensures ∙ ap (λ (n : List ℕ). c.loop-at.nodes ++ n ∷ []) w.in_ok-format-2.ensures.ok in
          w.nodes-is ∙ w.in_ok-add-3.ensures ∙ (λ i. up i ++ w.in_ok-format-3.ensures.ok i ∷ [])
          ∙ switch_added next (let past = w.if-at-hosts.false in omega arith)
    ]
