use Rattle.pipe_model.proofs.Recalls.{got_in_time}
use Rattle.pipe_model_node.proofs.Untaken.{not_logged}
use Rattle.pipe_model_node.proofs.recalled_messages_are_not_logged.Goals as goal

pub returns : goal.returns
returns c = record { never = not_logged; in_time = λ graph node own key got low. got_in_time graph node key own got low }
