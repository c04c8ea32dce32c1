use Rattle.std.proofs.Common.{◌≡◌, ◌++◌, drop}
use Rattle.pipe_text.specs.Body.{hex_text}
use Rattle.pipe_text.proofs.body.print_hex.Given as goal

-- what is printed so far, and then the digits of the rest
abbrev pub invariant-loop-byte : goal.invariant-loop-byte
invariant-loop-byte l = l.out.items ++ hex_text (drop l.byte-index l.bytes) ≡ l.initial.out.items ++ hex_text l.bytes
