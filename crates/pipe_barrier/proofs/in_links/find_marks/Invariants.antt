use Rattle.std.proofs.Common.{◌≡◌, ◌++◌, length, drop}
use Rattle.pipe_barrier.specs.InLinks.{marks_among}
use Rattle.pipe_barrier.proofs.in_links.find_marks.Given as goal

abbrev pub invariant-links : goal.invariant-links
invariant-links l =
    l.marks ++ marks_among l.patience.0 l.now.0 (drop (length l.yielded) l.registers) (drop (length l.yielded) l.quiets)
    ≡ marks_among l.patience.0 l.now.0 l.registers l.quiets
