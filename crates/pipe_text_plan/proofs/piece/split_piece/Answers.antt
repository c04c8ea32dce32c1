use Rattle.std.proofs.Common.{sym, ◌∙◌}
use Rattle.pipe_text_plan.proofs.PieceLaws.{pieces_at, pieces_none}
use Rattle.pipe_text_plan.proofs.piece.split_piece.Goals as goal

pub returns-in-None-clause-pieces : goal.returns-in-None-clause-pieces
returns-in-None-clause-pieces c = pieces_none _ c.requires (sym c.line_feed.ensures ∙ c.in-None.is)

pub returns-in-Some-clause-pieces : goal.returns-in-Some-clause-pieces
returns-in-Some-clause-pieces c =
    rw (c.split_at.ensures.front, c.split_at.ensures.back) (pieces_at _ _ (sym c.line_feed.ensures ∙ c.in-Some.is))
