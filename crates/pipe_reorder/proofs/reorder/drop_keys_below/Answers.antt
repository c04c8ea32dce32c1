use Rattle.std.proofs.Common.{sym, ◌∙◌}
use Rattle.pipe_reorder.proofs.TombstoneLaws.{all_keys_stay}
use Rattle.pipe_reorder.proofs.reorder.drop_keys_below.Goals as goal

pub returns-then-barrier-key : goal.returns-then-barrier-key
returns-then-barrier-key c =
    sym (all_keys_stay c.args.barrier.0 c.in-Some.key.now c.keys.keys.keys c.in-Some.ensures.all_from c.if-barrier-key.true) ∙ c.keys.invariant
