use Rattle.std.proofs.Common.{eqb-true, ap, sym, ◌∙◌, arith}
use Rattle.std.specs.Prelude.{remove}
use Rattle.pipe_net.specs.Blocks.{joined}
use Rattle.pipe_net.proofs.BlockLaws.{emptied_there, given_there, left_there, when_some}
use Rattle.pipe_net.proofs.blocks.take.Goals as goal

pub returns-then-len-gt1-clause-item : goal.returns-then-len-gt1-clause-item
returns-then-len-gt1-clause-item g c = λ n at.
    given_there c.args.blocks.now.items n c.args.place c.index_mut-block.result.now c.remove-item.result at c.index_mut-block.ensures.value c.remove-item.ensures.variant c.remove-item.ensures.value

pub returns-else-is_empty-clause-item : goal.returns-else-is_empty-clause-item
returns-else-is_empty-clause-item g c = λ n at.
    given_there c.args.blocks.now.items n c.args.place c.index_mut-block.result.now c.remove-item.result at c.index_mut-block.ensures.value c.remove-item.ensures.variant c.remove-item.ensures.value

pub returns-else-is_empty-clause-left : goal.returns-else-is_empty-clause-left
returns-else-is_empty-clause-left g c = λ n at.
    left_there c.args.blocks.now.items n c.args.place c.index_mut-block.result.now c.remove-item.new.block c.remove-item.result at c.index_mut-block.ensures.value
    c.remove-item.ensures.variant c.remove-item.ensures.items

pub returns-then-len-gt1-clause-left : goal.returns-then-len-gt1-clause-left
returns-then-len-gt1-clause-left g c = λ n at.
    let blocks = c.args.blocks.now in
    let i = c.args.place.block in
    let new = c.remove-item.new.block in
    ap joined (when_some c.remove.result _ (c.remove.ensures.variant.1 (omega (arith, at.known, blocks.ok.0))) c.remove.ensures.items)
    ∙ emptied_there blocks.items i new (remove (joined blocks.items) n) at.known (eqb-true new.len 0 (sym c.is_empty.ensures ∙ c.if-is_empty.true))
    (left_there blocks.items n c.args.place c.index_mut-block.result.now new c.remove-item.result at c.index_mut-block.ensures.value c.remove-item.ensures.variant
    c.remove-item.ensures.items)
