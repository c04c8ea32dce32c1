use Rattle.pipe_model_node.proofs.Ordered.{log_below_barrier}
use Rattle.pipe_model_runs.proofs.LoggedHeld.{logged_was_held}
use Rattle.pipe_model_runs.proofs.what_is_logged_was_received.Goals as goal

pub returns : goal.returns
returns c = record { received = logged_was_held; passed = log_below_barrier }
