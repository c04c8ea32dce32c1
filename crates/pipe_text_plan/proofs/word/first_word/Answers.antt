use Rattle.std.proofs.Common.{ℕ, ap, sym, ◌∙◌, List, slice_get}
use Rattle.pipe_text_plan.proofs.WordLaws.{words_none, first_at, first_all}
use Rattle.pipe_text_plan.proofs.word.first_word.Goals as goal

pub returns-in_default : goal.returns-in_default
returns-in_default c =
    sym (ap (λ (words : List (List ℕ)). slice_get words 0) (words_none c.args.line.now (sym c.word_start.ensures ∙ c.in_default.is)))

pub returns-in-Some-word_end : goal.returns-in-Some-word_end
returns-in-Some-word_end c =
    rw c.split_at-in-Some-word_end.ensures.front
    (sym (first_at c.args.line.now c.split_at.result.1.now c.in-Some.start c.in-Some-word_end.end (sym c.word_start.ensures ∙ c.in-Some.is)
    c.split_at.ensures.back (sym c.word_end.ensures ∙ c.in-Some-word_end.is)))

pub returns-in-None : goal.returns-in-None
returns-in-None c =
    sym (first_all c.args.line.now c.split_at.result.1.now c.in-Some.start (sym c.word_start.ensures ∙ c.in-Some.is)
    c.split_at.ensures.back (sym c.word_end.ensures ∙ c.in-None.is))
