use Rattle.std.proofs.Common.{map}
use Rattle.pipe_text_plan.proofs.NameLaws.{AreNumbered}
use Rattle.pipe_text_plan.proofs.number.numbered.Given as goal

abbrev pub invariant-names : goal.invariant-names
invariant-names l = AreNumbered (map (λ name. name.now) l.all) l.names l.name-index
