use Rattle.std.proofs.Common.{ℕ, List, [], refl, subst}
use Rattle.pipe_base.specs.declared.name.LinkId.{LinkId}
use Rattle.pipe_barrier.specs.InLinks as in_links
use Rattle.pipe_links.specs.Ways.{AreWays}
use Rattle.pipe_links.proofs.links.Links.new.Goals as goal

pub returns : goal.returns
returns c =
    let graph = c.args.topology.now in
    record {
      node_is = refl;
      within = c.requires;
      ins_are =
          subst (λ (ins : List LinkId). in_links.Stands ins graph.patience c.in_ok-new.field-0 [] []) c.ins.ensures.value
          (subst (λ (n : ℕ). in_links.Stands c.ins.result.now n c.in_ok-new.field-0 [] []) c.patience.ensures c.in_ok-new.ensures);
      ways_are = subst (λ (known : List LinkId). AreWays graph c.args.node.0 known c.in_ok-new-2.field-0) c.new-2.ensures c.in_ok-new-2.ensures;
      none_ahead = refl;
      history = tt;
    }
