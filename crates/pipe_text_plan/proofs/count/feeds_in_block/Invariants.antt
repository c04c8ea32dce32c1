use Rattle.std.proofs.Common.{◌≡◌, ◌==◌, take}
use Rattle.std.specs.List.{count_by}
use Rattle.pipe_text_plan.proofs.count.feeds_in_block.Given as goal

-- the line feeds so far
abbrev pub invariant-loop-byte : goal.invariant-loop-byte
invariant-loop-byte l = l.count ≡ count_by (λ byte. byte == 10) (take l.byte-index l.block)
