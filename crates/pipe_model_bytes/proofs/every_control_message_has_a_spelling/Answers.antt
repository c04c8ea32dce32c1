use Rattle.pipe_model_bytes.proofs.Controls.{controls_spelled}
use Rattle.pipe_model_bytes.proofs.every_control_message_has_a_spelling.Goals as goal

pub returns : goal.returns
returns c = controls_spelled
