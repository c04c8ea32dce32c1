use Rattle.std.proofs.Common.{◌≡◌, ◌==◌, ◌+◌, length}
use Rattle.std.specs.List.{count_by}
use Rattle.pipe_text_plan.proofs.count.line_feeds.Given as goal

-- the line feeds so far and those of the rest are those of the text
abbrev pub invariant-counting : goal.invariant-counting
invariant-counting l = l.count + count_by (λ byte. byte == 10) l.rest ≡ count_by (λ byte. byte == 10) l.fn.text

abbrev pub decreases-counting : goal.decreases-counting
decreases-counting l = length l.rest
