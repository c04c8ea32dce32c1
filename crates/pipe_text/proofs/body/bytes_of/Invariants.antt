use Rattle.std.proofs.Common.{◌≡◌, ◌++◌, length}
use Rattle.std.specs.Option.{option_map}
use Rattle.pipe_text.specs.Body.{bytes_of}
use Rattle.pipe_text.proofs.body.bytes_of.Given as goal

-- the bytes so far, and then those of the rest, are those of the word
abbrev pub invariant-pairs : goal.invariant-pairs
invariant-pairs l = option_map (λ bytes. l.bytes.items ++ bytes) (bytes_of l.rest) ≡ bytes_of l.fn.word

abbrev pub decreases-pairs : goal.decreases-pairs
decreases-pairs l = length l.rest
