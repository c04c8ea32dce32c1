use Rattle.std.proofs.Common.{◌≡◌, take}
use Rattle.std.specs.Str.Parse.{AllDigits, digits_value}
use Rattle.pipe_text.proofs.number.leading_digits.Given as goal

-- so far there are digits alone, of this value
abbrev pub invariant-loop-at : goal.invariant-loop-at
invariant-loop-at l = record {
  digits : AllDigits 10 (take l.at l.text);
  value : l.value ≡ digits_value 10 (take l.at l.text);
}
