use Rattle.std.proofs.Common.{sym, ◌∙◌}
use Rattle.std.specs.Str.Lines.{lines}
use Rattle.pipe_text_plan.proofs.MarkLaws.{star_divides, mark_divides}
use Rattle.pipe_text_plan.proofs.division.parts_of.Goals as goal

pub returns-then-is_star-clause-division : goal.returns-then-is_star-clause-division
returns-then-is_star-clause-division c =
    sym (star_divides c.args.input.now c.next_line.result.0.now c.split_piece.result.0.now c.split_piece.result.1.now
    (lines c.next_line.result.1.now) c.next_line.ensures.lines c.split_piece.ensures.pieces (sym c.is_star.ensures ∙ c.if-is_star.true))

pub returns-clause-division : goal.returns-clause-division
returns-clause-division c =
    c.around_mark.ensures.division
    ∙ sym (mark_divides c.args.input.now c.next_line.result.0.now (lines c.next_line.result.1.now) c.next_line.ensures.lines
    (sym c.is_star.ensures ∙ c.if-is_star.false))
