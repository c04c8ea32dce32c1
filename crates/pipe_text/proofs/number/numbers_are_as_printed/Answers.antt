use Rattle.pipe_text.proofs.DecimalLaws.{number_is_decimal}
use Rattle.pipe_text.proofs.number.numbers_are_as_printed.Goals as goal

pub returns : goal.returns
returns c = number_is_decimal
