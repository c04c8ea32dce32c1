use Rattle.pipe_failtime.proofs.FirstLaws.{goes_alone, goes_in_words, one_goes, words_go}
use Rattle.pipe_failtime.proofs.laws.one_host_goes_next.Goals as goal

pub returns-clause-some : goal.returns-clause-some
returns-clause-some c = one_goes

pub returns-clause-alone : goal.returns-clause-alone
returns-clause-alone c = goes_alone

pub returns-clause-words : goal.returns-clause-words
returns-clause-words c = λ g by left host lt. (goes_in_words g by left host lt, words_go g by left host lt)
