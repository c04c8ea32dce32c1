use Rattle.std.proofs.Common.{List, ap, ◌∙◌}
use Rattle.pipe_base.specs.declared.name.LinkId.{LinkId}
use Rattle.pipe_base.specs.Ways.{picked}
use Rattle.pipe_graph.proofs.RouteLaws.{picked_is_route}
use Rattle.pipe_route.specs.Routing.{Routing}
use Rattle.pipe_route.proofs.routes.RoutesRouter.pick.Goals as goal

pub returns-clause-route : goal.returns-clause-route
returns-clause-route c = λ graph by is.
    c.picked.ensures
    ∙ ap (λ (links : List (List LinkId)). picked links c.args.src.0 c.args.dst.0)
    (c.deref.ensures.value ∙ ap (λ (r : Routing). r.links) c.self.view_is ∙ ap (λ (r : Routing). r.links) is)
    ∙ picked_is_route graph by c.args.self.now.node c.args.src.0 c.args.dst.0
