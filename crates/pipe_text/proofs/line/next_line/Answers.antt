use Rattle.std.proofs.Common.{sym}
use Rattle.pipe_text.proofs.LineLaws.{lines_at, lines_none}
use Rattle.pipe_text.proofs.line.next_line.Goals as goal

pub returns-in_default-clause-lines : goal.returns-in_default-clause-lines
returns-in_default-clause-lines c = lines_none _ c.requires (sym c.in_default.ensures)

pub returns-clause-lines : goal.returns-clause-lines
returns-clause-lines c =
    rw (c.without_return.ensures, c.split_at.ensures.front, c.split_at-2.ensures.back) (lines_at _ _ (sym c.in-Some.ensures))
