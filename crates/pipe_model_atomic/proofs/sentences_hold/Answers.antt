use Rattle.pipe_model_atomic.proofs.Holds.{sentences_hold}
use Rattle.pipe_model_atomic.proofs.sentences_hold.Goals as goal

pub returns : goal.returns
returns c = sentences_hold
