use Rattle.std.proofs.Common.{sym, ◌∙◌}
use Rattle.pipe_text_plan.proofs.MarkLaws.{passed_more, passed_mark}
use Rattle.pipe_text_plan.proofs.division.around_mark.Goals as goal

pub returns-then-is_mark-clause-division : goal.returns-then-is_mark-clause-division
returns-then-is_mark-clause-division c =
    rw c.split_at.ensures.front (sym (passed_mark _ _ c.split_piece.result.0.now _ c.pieces.passed c.pieces.invariant
    c.split_piece.ensures.pieces (sym c.is_mark.ensures ∙ c.if-is_mark.true)))

pub pieces-preserved : goal.pieces-preserved
pieces-preserved c =
    passed_more _ _ c.split_piece.result.0.now _ c.pieces.passed c.pieces.invariant c.split_piece.ensures.pieces c.split_piece.ensures.joined
    c.split_piece.ensures.shorter (sym c.is_mark.ensures ∙ c.if-is_mark.false)
