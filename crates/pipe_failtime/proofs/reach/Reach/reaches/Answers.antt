use Rattle.std.proofs.Common.{ℕ, ◌<◌, Bool, List, [], length, get_or, ap, subst, ◌∙◌, arith}
use Rattle.std.proofs.lemmas.List.{get_or_default}
use Rattle.pipe_topo.specs.Sets.{has}
use Rattle.pipe_failtime.specs.Reaching.{IsReachTable, Reaching}
use Rattle.pipe_failtime.proofs.reach.Reach.reaches.Goals as goal

pub returns : goal.returns
returns c =
    let sets = c.self.inside.reachers.items in
    let table : IsReachTable c.args.self.now sets = subst (λ (v : Reaching). IsReachTable v sets) c.self.view_is c.self.invariant in
    let size = table.size in
    let inside : c.from.result < length sets = omega arith in
    c.has.ensures
    ∙ ap (λ (set : List Bool). has set c.args.a) (c.index.ensures ∙ get_or_default sets c.from.result c.index.result.now [] inside ∙ ap (λ (b : ℕ). get_or sets b []) c.from.ensures)
    ∙ table.right c.args.a c.args.b c.requires.a c.requires.b
