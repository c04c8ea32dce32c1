use Rattle.pipe_model.proofs.Marks.{mark_is_frozen, mark_stays}
use Rattle.pipe_model_node.proofs.MarkedOnce.{marked_once}
use Rattle.pipe_model_node.proofs.marks_are_frozen.Goals as goal

pub returns : goal.returns
returns c = record { frozen = mark_is_frozen; stay = mark_stays; once = marked_once }
