use Rattle.std.proofs.Common.{sym}
use Rattle.pipe_text.proofs.FrontLaws.{above_before, digits_above, digits_spell, longer_than_digits, unspelled_before, unspelled_digits}
use Rattle.pipe_text.proofs.number.front_number.Goals as goal

pub returns-then-not-is_spelled-clause-none : goal.returns-then-not-is_spelled-clause-none
returns-then-not-is_spelled-clause-none c =
    unspelled_digits c.args.most c.args.text.now c.leading_digits-value.result.1 c.leading_digits-value.result.0 c.leading_digits-value.ensures
    (sym c.if-not-is_spelled.ensures)

pub returns-then-value-most-clause-front : goal.returns-then-value-most-clause-front
returns-then-value-most-clause-front c =
    digits_spell c.args.most c.args.text.now c.leading_digits-value.result.1 c.leading_digits-value.result.0 c.leading_digits-value.ensures
    (sym c.if-not-is_spelled.ensures) c.if-value-most.true

pub returns-then-value-most-clause-longest : goal.returns-then-value-most-clause-longest
returns-then-value-most-clause-longest c =
    longer_than_digits c.args.most c.args.text.now c.leading_digits-value.result.1 c.leading_digits-value.result.0 c.leading_digits-value.ensures

pub returns-else-value-most-clause-none : goal.returns-else-value-most-clause-none
returns-else-value-most-clause-none c =
    digits_above c.args.most c.args.text.now c.leading_digits-value.result.1 c.leading_digits-value.result.0 c.leading_digits-value.ensures
    c.if-value-most.false

pub returns-then-not-is_spelled-clause-before : goal.returns-then-not-is_spelled-clause-before
returns-then-not-is_spelled-clause-before c word after stop =
    unspelled_before c.args.most c.args.text.now word after stop c.leading_digits-value.result.1 c.leading_digits-value.result.0
    c.leading_digits-value.ensures (sym c.if-not-is_spelled.ensures)

pub returns-else-value-most-clause-before : goal.returns-else-value-most-clause-before
returns-else-value-most-clause-before c word after stop =
    above_before c.args.most c.args.text.now word after stop c.leading_digits-value.result.1 c.leading_digits-value.result.0
    c.leading_digits-value.ensures c.if-value-most.false
