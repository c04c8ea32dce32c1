use Rattle.std.proofs.Common.{◌≡◌, false, Option, None, Some, refl, sym, subst, ap, ◌∙◌, ◌∷◌, unwrap_or}
use Rattle.std.specs.Prelude.{is_some}
use Rattle.pipe_links.specs.declared.links.Links.{Links}
use Rattle.pipe_links.specs.declared.ways.Ways.{Ways}
use Rattle.pipe_links.specs.Links.{Stands, next_ways}
use Rattle.pipe_links.proofs.Follows.{follows}
use Rattle.pipe_links.proofs.links.Links.follow.Goals as goal

none_there : (o : Option Ways) → is_some o ≡ false → o ≡ None
none_there None is = refl
none_there (Some w) is = absurd cc

pub returns-then-is_some : goal.returns-then-is_some
returns-then-is_some c = λ graph node own stands comes step.
    let k = c.args.self.now in
    subst (λ (after : Links). Stands graph node (c.args.made.now ∷ own) after) (sym c.change_ways.ensures)
    (follows graph node own c.args.made.now k c.follow.new.ins (next_ways k) None stands step (c.follow.ensures graph node own stands.stands.ins_are comes step) refl refl)

pub returns-else-is_some : goal.returns-else-is_some
returns-else-is_some c = λ graph node own stands comes step.
    let k = c.args.self.now in
    let none : k.ahead ≡ None = none_there k.ahead (sym c.is_some.ensures ∙ c.if-is_some.false) in
    follows graph node own c.args.made.now k c.follow.new.ins k.ways k.ahead stands step (c.follow.ensures graph node own stands.stands.ins_are comes step)
    (ap (λ (o : Option Ways). unwrap_or o k.ways) (sym none)) none
