use Rattle.pipe_failtime.proofs.TimeLaws.{none_in_words, time_in_words, words_none, words_time}
use Rattle.pipe_failtime.proofs.laws.failure_time_is_greatest_report.Goals as goal

pub returns-clause-some : goal.returns-clause-some
returns-clause-some c = λ g live reports host time. (time_in_words g live reports host time, words_time g live reports host time)

pub returns-clause-none : goal.returns-clause-none
returns-clause-none c = λ g live reports host. (none_in_words g live reports host, words_none g live reports host)
