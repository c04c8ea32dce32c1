use Rattle.std.proofs.Common.{◌≡◌, ◌+◌, ◌≤◌, length}
use Rattle.pipe_text_plan.specs.Counted.{lines_read}
use Rattle.pipe_text_plan.proofs.count.lines_read.Given as goal

-- the lines so far, and those of the rest
abbrev pub invariant-lines : goal.invariant-lines
invariant-lines l = record {
  counted : l.count + lines_read l.rest ≡ lines_read l.fn.text;
  few : l.count + length l.rest ≤ length l.fn.text;
}

abbrev pub decreases-lines : goal.decreases-lines
decreases-lines l = length l.rest
