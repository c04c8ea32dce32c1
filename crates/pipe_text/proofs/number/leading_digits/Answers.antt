use Rattle.std.proofs.Common.{◌≡◌, ℕ, ◌<◌, length, take, get_or, ap, arith, subst, sym, ◌∙◌}
use Rattle.std.specs.Str.Parse.{AllDigits, digits_value}
use Rattle.pipe_text.proofs.NumberLaws.{digit_range, digits_one_more, front_small, value_more}
use Rattle.pipe_text.proofs.number.leading_digits.Goals as goal

pub returns-then-not-is_ascii_digit : goal.returns-then-not-is_ascii_digit
returns-then-not-is_ascii_digit c = record {
  within = omega (arith, c.min-most.ensures);
  few = omega (arith, c.min-most.ensures);
  digits = c.loop-at.invariant.digits;
  value_is = c.loop-at.invariant.value;
  longest = λ more fewer. sym (c.if-not-is_ascii_digit.ensures.value);
}

pub overflow_mul-value : goal.overflow_mul-value
overflow_mul-value c =
    omega (arith, c.loop-at.invariant.value, front_small c.args.text.now c.loop-at.at (omega (arith, c.min-most.ensures)) c.loop-at.invariant.digits)

pub overflow_add-value : goal.overflow_add-value
overflow_add-value c =
    let range = digit_range (get_or c.args.text.now c.loop-at.at 0) (sym c.if-not-is_ascii_digit.ensures.value) in
    omega (
      arith,
      c.from.ensures,
      range.2,
      c.loop-at.invariant.value,
      front_small c.args.text.now c.loop-at.at (omega (arith, c.min-most.ensures)) c.loop-at.invariant.digits,
    )

pub loop-at-preserved : goal.loop-at-preserved
loop-at-preserved c =
    let within : c.loop-at.at < length c.args.text.now = omega (arith, c.min-most.ensures) in
    record {
      digits = digits_one_more c.args.text.now c.loop-at.at within (sym c.if-not-is_ascii_digit.ensures.value) c.loop-at.invariant.digits;
      value = value_more c.args.text.now c.loop-at.at c.loop-at.value c.from.result within (sym c.if-not-is_ascii_digit.ensures.value) c.loop-at.invariant.value c.from.ensures;
    }

pub returns : goal.returns
returns c =
    let same : c.loop-at.at ≡ c.min-most.result = omega arith in record {
      within = omega (arith, c.min-most.ensures);
      few = omega (arith, c.min-most.ensures);
      digits = subst (λ (n : ℕ). AllDigits 10 (take n c.args.text.now)) same c.loop-at.invariant.digits;
      value_is = c.loop-at.invariant.value ∙ ap (λ (n : ℕ). digits_value 10 (take n c.args.text.now)) same;
      longest = λ more fewer. absurd (omega (arith, c.min-most.ensures));
    }
