use Rattle.pipe_model_atomic.proofs.LateMessage.{none_late}
use Rattle.pipe_model_atomic.proofs.no_reliable_message_is_late_of_itself.Goals as goal

pub returns : goal.returns
returns c = none_late
