use Rattle.pipe_model_node.proofs.Passed.{passed_logged}
use Rattle.pipe_model_node.proofs.passed_messages_are_logged.Goals as goal

pub returns : goal.returns
returns c = passed_logged
