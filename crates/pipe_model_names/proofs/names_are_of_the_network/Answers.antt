use Rattle.pipe_model_names.proofs.Names.{names_known}
use Rattle.pipe_model_names.proofs.names_are_of_the_network.Goals as goal

pub returns : goal.returns
returns c = names_known
