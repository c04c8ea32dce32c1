use Rattle.pipe_model_net.proofs.NeverLate.{never_late}
use Rattle.pipe_model_net.proofs.ordered_links_are_never_late.Goals as goal

pub returns : goal.returns
returns c = never_late
