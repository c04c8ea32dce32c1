use Rattle.pipe_model_runs.proofs.OneRun.{follows, record_only}
use Rattle.pipe_model_runs.proofs.one_record_follows.Goals as goal

pub returns : goal.returns
returns c = record {
  event = λ graph past event. (follows graph past event).1;
  follows = λ graph past event. (follows graph past event).0;
  only = record_only;
}
