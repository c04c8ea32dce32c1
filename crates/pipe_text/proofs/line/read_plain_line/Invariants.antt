use Rattle.std.proofs.Common.{◌≤◌, length, map}
use Rattle.pipe_text.proofs.PlainLaws.{Continues}
use Rattle.pipe_text.proofs.line.read_plain_line.Given as goal

-- the words so far, and then those of the first line of the rest, are those of the first line of the text
abbrev pub invariant-words : goal.invariant-words
invariant-words l = record {
  goes_on : Continues l.fn.text l.rest (map (λ word. word.now) l.words.items);
  within : length l.rest ≤ length l.fn.text;
}

abbrev pub decreases-words : goal.decreases-words
decreases-words l = length l.rest
