use Rattle.pipe_model_bounds.proofs.Numbers.{numbers_within}
use Rattle.pipe_model_bounds.proofs.numbers_are_within_the_clock.Goals as goal

pub returns : goal.returns
returns c = numbers_within
