use Rattle.std.proofs.Common.{◌≡◌, ℕ, List, Bool, true, subst}
use Rattle.std.proofs.lemmas.Result.{IfOk-weaker}
use Rattle.pipe_base.specs.declared.step.Step.{Step}
use Rattle.pipe_graph.specs.Graph.{Graph, ins_of}
use Rattle.pipe_base.specs.Moment.{has_link}
use Rattle.pipe_host.specs.Host as host
use Rattle.pipe_model.specs.Records.{taken}
use Rattle.pipe_model.specs.declared.record.Record.{Record}
use Rattle.pipe_switch.specs.Half as half
use Rattle.pipe_world.specs.declared.node.Node.{Node}
use Rattle.pipe_world.specs.declared.node.Node.TheVariants.{Host, Half}
use Rattle.pipe_world.specs.Node.{Stands, Works}
use Rattle.pipe_world.proofs.node.Node.work_take.Goals as goal

pub returns-in-Host-clause-ok : goal.returns-in-Host-clause-ok
returns-in-Host-clause-ok c =
    let link = c.args.link in
    let p = c.args.packet.now in
    IfOk-weaker c.work_take.result
    (λ (step : Step). (graph : Graph) (node : ℕ) (own : List Record) (place : ℕ) (keep : Bool) → host.Stands graph node own c.in-Host.host
    → has_link link.0 (ins_of graph node) ≡ true → host.Works graph node own (taken link p place keep step) c.work_take.new.self)
    (λ (step : Step). (graph : Graph) (node : ℕ) (own : List Record) (place : ℕ) (keep : Bool) → Stands graph node own c.args.self.now
    → has_link link.0 (ins_of graph node) ≡ true → Works graph node own (taken link p place keep step) (Host c.work_take.new.self))
    (λ step works graph node own place keep stands comes.
    let done = works graph node own place keep (subst (λ (k : Node). Stands graph node own k) c.in-Host.is stands) comes in
    record { rules = done.rules; stands = done.stands })
    c.work_take.ensures.ok

pub returns-in-Half-clause-ok : goal.returns-in-Half-clause-ok
returns-in-Half-clause-ok c =
    let link = c.args.link in
    let p = c.args.packet.now in
    IfOk-weaker c.work_take-in-Half.result
    (λ (step : Step). (graph : Graph) (node : ℕ) (own : List Record) (place : ℕ) (keep : Bool) → half.Stands graph node own c.in-Half.half
    → has_link link.0 (ins_of graph node) ≡ true → half.Works graph node own (taken link p place keep step) c.in-Half.half)
    (λ (step : Step). (graph : Graph) (node : ℕ) (own : List Record) (place : ℕ) (keep : Bool) → Stands graph node own c.args.self.now
    → has_link link.0 (ins_of graph node) ≡ true → Works graph node own (taken link p place keep step) (Half c.in-Half.half))
    (λ step works graph node own place keep stands comes.
    let done = works graph node own place keep (subst (λ (k : Node). Stands graph node own k) c.in-Half.is stands) comes in
    record { rules = done.rules; stands = done.stands })
    c.work_take-in-Half.ensures
