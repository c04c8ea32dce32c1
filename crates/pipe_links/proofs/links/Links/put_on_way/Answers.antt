use Rattle.std.proofs.Common.{◌∷◌, [], ◌∙◌}
use Rattle.std.proofs.lemmas.Result.{on_ok_weaker}
use Rattle.pipe_model.specs.Moments.{known_drops}
use Rattle.pipe_links.proofs.WayLaws.{ways_are}
use Rattle.pipe_links.proofs.links.Links.put_on_way.Goals as goal

pub returns-clause-ok : goal.returns-clause-ok
returns-clause-ok c =
    on_ok_weaker c.put_on_way.result
    (λ is graph node own stands. is ∙ ways_are graph node (known_drops own) c.args.self.now.ways.routes (c.args.packet ∷ []) c.args.step.now stands.ways_are.routes_are)
    c.put_on_way.ensures.ok
