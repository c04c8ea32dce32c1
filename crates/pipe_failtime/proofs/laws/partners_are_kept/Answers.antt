use Rattle.pipe_failtime.proofs.RoundLaws.{none_more_doomed}
use Rattle.pipe_failtime.proofs.laws.partners_are_kept.Goals as goal

pub returns : goal.returns
returns c = none_more_doomed
