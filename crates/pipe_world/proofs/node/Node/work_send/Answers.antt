use Rattle.std.proofs.Common.{List, subst}
use Rattle.std.proofs.lemmas.Result.{IfOk-weaker}
use Rattle.pipe_base.specs.declared.name.HostId.{HostId}
use Rattle.pipe_base.specs.declared.step.Step.{Step}
use Rattle.pipe_graph.specs.Graph.{Graph}
use Rattle.pipe_host.specs.Host as host
use Rattle.pipe_model.specs.Records.{sent}
use Rattle.pipe_model.specs.declared.record.Record.{Record}
use Rattle.pipe_world.specs.declared.node.Node.{Node}
use Rattle.pipe_world.specs.declared.node.Node.TheVariants.{Host}
use Rattle.pipe_world.specs.Node.{Stands, Works}
use Rattle.pipe_world.proofs.node.Node.work_send.Goals as goal

pub returns-clause-ok : goal.returns-clause-ok
returns-clause-ok c =
    let scattering : HostId → Step → Record = λ h step. sent h c.args.service c.args.now c.args.dests.now step in
    IfOk-weaker c.work_send.result
    (λ (step : Step). (graph : Graph) (h : HostId) (own : List Record) → host.Stands graph h.0 own c.in-Host.host
    → host.Works graph h.0 own (scattering h step) c.work_send.new.self)
    (λ (step : Step). (graph : Graph) (h : HostId) (own : List Record) → Stands graph h.0 own c.args.self.now
    → Works graph h.0 own (scattering h step) (Host c.work_send.new.self))
    (λ step works graph h own stands.
    let done = works graph h own (subst (λ (k : Node). Stands graph h.0 own k) c.in-Host.is stands) in
    record { rules = done.rules; stands = done.stands })
    c.work_send.ensures.ok
