use Rattle.std.proofs.Common.{◌≡◌, length, map, sym, ap, subst, ◌∙◌, arith}
use Rattle.std.specs.Vec.{vec_len}
use Rattle.std.proofs.lemmas.List.{with_items_is}
use Rattle.pipe_base.specs.Silence.{Took}
use Rattle.pipe_barrier.specs.Silence.{Kept, Stands, quiet_after}
use Rattle.pipe_barrier.proofs.Quieting.{stands_after}
use Rattle.pipe_barrier.proofs.silence.Silence.took.Goals as goal

pub returns : goal.returns
returns c ins patience calls stands =
    let links = c.self.inside.links in
    let same : length c.took_all.new.links ≡ vec_len links = omega arith in
    stands_after ins patience calls (Took c.args.link.0) c.self.inside.patience links.items _
    (subst (λ (kept : Kept). Stands ins patience kept calls) (sym c.self.view_is) stands)
    (with_items_is links c.took_all.new.links same ∙ c.took_all.ensures ∙ ap (map (quiet_after (Took c.args.link.0))) c.deref_mut.ensures.value)
