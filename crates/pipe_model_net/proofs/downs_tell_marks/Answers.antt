use Rattle.pipe_model_net.proofs.Downs.{downs_true}
use Rattle.pipe_model_net.proofs.downs_tell_marks.Goals as goal

pub returns : goal.returns
returns c = downs_true
