use Rattle.pipe_text_input.proofs.NetworkLaws.{content_has_network}
use Rattle.pipe_text_input.proofs.laws.inputs_have_networks.Goals as goal

pub returns : goal.returns
returns c = content_has_network
