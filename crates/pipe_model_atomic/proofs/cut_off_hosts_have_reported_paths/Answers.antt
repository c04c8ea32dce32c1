use Rattle.pipe_model_atomic.proofs.CutPaths.{cut_in_words, words_cut}
use Rattle.pipe_model_atomic.proofs.cut_off_hosts_have_reported_paths.Goals as goal

pub returns : goal.returns
returns c = λ graph past host other time whole. (cut_in_words graph past host other time whole, words_cut graph past host other time)
