use Rattle.std.proofs.Common.{◌≡◌, ℕ, List, [], ◌∷◌, ◌∙◌}
use Rattle.std.proofs.lemmas.Result.{IfOk-weaker}
use Rattle.pipe_base.specs.declared.step.Outcome.TheVariants.{Ok}
use Rattle.pipe_base.specs.declared.step.Step.{Step}
use Rattle.pipe_graph.specs.Graph.{Graph}
use Rattle.pipe_graph.specs.ShortestRoute.{route}
use Rattle.pipe_base.specs.Step.{quiet_step}
use Rattle.pipe_base.specs.Ways.{with_ways}
use Rattle.pipe_model.specs.declared.record.Record.{Record}
use Rattle.pipe_model.specs.Moments.{known_drops}
use Rattle.pipe_links.specs.Links.{Stands}
use Rattle.pipe_links.proofs.WayLaws.{ways_are}
use Rattle.pipe_links.proofs.links.Links.send_on_way.Goals as goal

pub returns : goal.returns
returns c =
    IfOk-weaker c.on_way.result _
    (λ (step : Step). (graph : Graph) (node : ℕ) (own : List Record) → Stands graph node own c.args.self.now
    → step ≡ with_ways (route graph (known_drops own) node) (c.args.packet ∷ []) (quiet_step Ok))
    (λ step is graph node own stands. is ∙ ways_are graph node (known_drops own) c.args.self.now.ways.routes (c.args.packet ∷ []) (quiet_step Ok) stands.ways_are.routes_are)
    c.on_way.ensures
