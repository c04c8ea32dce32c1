use Rattle.std.proofs.Common.{map, sym}
use Rattle.std.proofs.lemmas.List.{length-map}
use Rattle.pipe_text_plan.proofs.StarLaws.{star_short, star_long}
use Rattle.pipe_text_plan.proofs.star.star_of.Goals as goal

pub returns-in_default-clause-value : goal.returns-in_default-clause-value
returns-in_default-clause-value c = sym (star_short (map (λ word. word.now) c.args.words.now) (simp length-map c.in_default.len_below))

pub returns-in_default-2-clause-value : goal.returns-in_default-2-clause-value
returns-in_default-2-clause-value c = sym (star_long (map (λ word. word.now) c.args.words.now) (simp length-map c.in_default.len_at_least))
