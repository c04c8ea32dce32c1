-- Each line but the last ends with a line feed.
use Rattle.std.proofs.Common.{◌==◌, ℕ, ◌+◌, ◌≤◌, Bool, true, false, List, [], ◌∷◌, length, arith, if◌then◌else◌}
use Rattle.std.specs.List.{count_by, slice_split}
use Rattle.std.specs.Str.Lines.{lines, lines_of_parts}
use Rattle.std.proofs.lemmas.List.Splits.{length-slice_split}
use Rattle.std.proofs.lemmas.List.Sums.{count_by-le-length}
use Rattle.pipe_text_plan.specs.Counted.{is_read, lines_read}

one_line : (t : Bool) (part : List ℕ) → length (if t then [] else part ∷ []) ≤ 1
one_line true part = omega arith
one_line false part = omega arith

lines_within : (parts : List (List ℕ)) → length (lines_of_parts parts) ≤ length parts
lines_within [] = omega arith
lines_within (part ∷ []) = one_line (length part == 0) part
lines_within (part ∷ next ∷ parts) = omega (arith, lines_within (next ∷ parts))

pub feeds_bound : (text : List ℕ) → lines_read text ≤ count_by (λ byte. byte == 10) text + 1
feeds_bound text =
    omega (
      arith,
      count_by-le-length is_read (lines text),
      lines_within (slice_split (λ byte. byte == 10) text),
      length-slice_split (λ byte. byte == 10) text,
    )
