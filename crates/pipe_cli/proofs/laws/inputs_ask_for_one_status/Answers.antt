use Rattle.pipe_cli.proofs.OneStatus.{one_status}
use Rattle.pipe_cli.proofs.laws.inputs_ask_for_one_status.Goals as goal

pub returns : goal.returns
returns c = one_status
