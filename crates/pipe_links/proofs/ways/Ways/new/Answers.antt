use Rattle.std.proofs.Common.{List, length, filter, refl, subst, ap, ◌∙◌}
use Rattle.pipe_base.specs.declared.name.LinkId.{LinkId}
use Rattle.pipe_topo.specs.Sets.{lacks}
use Rattle.pipe_links.specs.Ways.{IsSetOf}
use Rattle.pipe_links.proofs.WayLaws.{outs_kept, routes_left}
use Rattle.pipe_links.proofs.ways.Ways.new.Goals as goal

pub returns : goal.returns
returns c =
    let graph = c.args.topology.now in
    let set = c.in_ok-dropped.dropped in
    let is : IsSetOf (length graph.links) c.args.known set =
    subst (λ (known : List LinkId). IsSetOf (length graph.links) known set) c.as_slice.ensures.value c.in_ok-dropped.ensures in
    record {
      known_are = refl;
      outs_are = c.in_ok-kept_among.ensures ∙ ap (filter (λ (l : LinkId). lacks set l.0)) c.outs.ensures.value ∙ outs_kept graph c.args.node.0 c.args.known set is;
      routes_are = c.in_ok-build.ensures ∙ routes_left graph c.args.node.0 c.args.known set is;
    }
