use Rattle.std.proofs.Common.{Global, ◌≡◌, ◌-◌, ◌++◌, ◌∷◌, List, [], ap, refl, ◌∙◌, arith}
use Rattle.std.specs.declared.collections.VecDeque.{VecDeque}
use Rattle.pipe_net.specs.Blocks.{joined}
use Rattle.pipe_net.proofs.BlockLaws.{block_more, on_err, one_more, same_block}
use Rattle.pipe_net.proofs.blocks.push.Goals as goal
use Rattle.pipe_net.proofs.blocks.push.Goals.{in-Some+else-len-lt-BLOCK, in_default}

pub returns-in_err-push_back-clause-err : goal.returns-in_err-push_back-clause-err
returns-in_err-push_back-clause-err g c =
    let blocks = c.args.blocks.now in
    on_err c.from_residual.result _
    (same_block blocks.items (blocks.len - 1) c.in-Some.last.now c.push_back.new.self (omega (arith, c.in-Some.ensures.variant.0 refl, blocks.ok.0)) c.in-Some.ensures.value
    c.in_err-push_back.ensures.items)

pub returns-then-len-lt-BLOCK-clause-ok : goal.returns-then-len-lt-BLOCK-clause-ok
returns-then-len-lt-BLOCK-clause-ok g c =
    let blocks = c.args.blocks.now in
    one_more blocks.items (blocks.len - 1) c.in-Some.last.now c.push_back.new.self c.args.item (omega (arith, c.in-Some.ensures.variant.0 refl, blocks.ok.0)) c.in-Some.ensures.value
    c.in_ok-push_back.ensures.items

pub returns-in_err-push_back-3-clause-err : goal.returns-in_err-push_back-3-clause-err
returns-in_err-push_back-3-clause-err g c =
    let T = g.row.T.Denot in
    let blocks = c.args.blocks.now in
    let whole = λ (q : VecDeque (VecDeque T Global) Global). joined q.items in
    let same : joined c.match-back_mut.blocks.items ≡ joined blocks.items = elim c.match-back_mut.branch [
      | in-Some+else-len-lt-BLOCK w ↦
          let last = w.in-Some.last.now in
          ap whole w.blocks-is ∙ same_block blocks.items (blocks.len - 1) last last (omega (arith, w.in-Some.ensures.variant.0 refl, blocks.ok.0)) w.in-Some.ensures.value refl
      | in_default w ↦ ap whole w.blocks-is
    ] in
    on_err c.from_residual-in_err-push_back-3.result _ (ap joined c.in_err-push_back-3.ensures.items ∙ same)

pub returns-clause-ok : goal.returns-clause-ok
returns-clause-ok g c =
    let T = g.row.T.Denot in
    let blocks = c.args.blocks.now in
    let whole = λ (q : VecDeque (VecDeque T Global) Global). joined q.items in
    let same : joined c.match-back_mut.blocks.items ≡ joined blocks.items = elim c.match-back_mut.branch [
      | in-Some+else-len-lt-BLOCK w ↦
          let last = w.in-Some.last.now in
          ap whole w.blocks-is ∙ same_block blocks.items (blocks.len - 1) last last (omega (arith, w.in-Some.ensures.variant.0 refl, blocks.ok.0)) w.in-Some.ensures.value refl
      | in_default w ↦ ap whole w.blocks-is
    ] in
    let item : c.push_back-2.new.self.items ≡ c.args.item ∷ [] = c.in_ok-push_back-2.ensures.items ∙ ap (λ (xs : List T). xs ++ c.args.item ∷ []) c.new-block.ensures.items in
    ap joined c.in_ok-push_back-3.ensures.items
    ∙ block_more c.match-back_mut.blocks.items c.push_back-2.new.self c.args.item item
    ∙ ap (λ (xs : List T). xs ++ c.args.item ∷ []) same
