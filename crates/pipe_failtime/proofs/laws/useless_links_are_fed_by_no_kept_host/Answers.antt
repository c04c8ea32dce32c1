use Rattle.pipe_failtime.proofs.UselessLaws.{useless_in_words, words_useless}
use Rattle.pipe_failtime.proofs.laws.useless_links_are_fed_by_no_kept_host.Goals as goal

pub returns : goal.returns
returns c = λ g by kept link. (useless_in_words g by kept link, words_useless g by kept link)
