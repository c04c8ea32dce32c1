use Rattle.std.proofs.Common.{ℕ, ◌<◌, List, Bool, subst, sym}
use Rattle.std.proofs.lemmas.Result.{IfOk-weaker}
use Rattle.pipe_base.specs.declared.name.NodeId.{NodeId}
use Rattle.pipe_base.specs.declared.step.Step.{Step}
use Rattle.pipe_graph.specs.Graph.{Graph}
use Rattle.pipe_host.specs.Host as host
use Rattle.pipe_model.specs.Records.{told}
use Rattle.pipe_model.specs.declared.record.Record.{Record}
use Rattle.pipe_switch.specs.Half as half
use Rattle.pipe_world.specs.declared.node.Node.{Node}
use Rattle.pipe_world.specs.declared.node.Node.TheVariants.{Host, Half}
use Rattle.pipe_world.specs.Node.{Stands, Works}
use Rattle.pipe_world.proofs.node.Node.work_control.Goals as goal

pub work_control-requires : goal.work_control-requires
work_control-requires c =
    let graph : Graph = c.args.topology.now in
    let stands : host.Stands graph c.requires.stands.0 c.requires.stands.1 c.in-Host.host = subst (Stands graph c.requires.stands.0 c.requires.stands.1) c.in-Host.is c.requires.stands.2 in
    subst (λ (n : ℕ). n < graph.nodes) (sym stands.links_are.node_is) stands.links_are.within

pub work_control-requires-in-Half : goal.work_control-requires-in-Half
work_control-requires-in-Half c =
    let graph : Graph = c.args.topology.now in
    let stands : half.Stands graph c.requires.stands.0 c.requires.stands.1 c.in-Half.half = subst (Stands graph c.requires.stands.0 c.requires.stands.1) c.in-Half.is c.requires.stands.2 in
    record { node = subst (λ (n : ℕ). n < graph.nodes) (sym stands.links_are.node_is) stands.links_are.within }

pub returns-in-Host-clause-ok : goal.returns-in-Host-clause-ok
returns-in-Host-clause-ok c =
    let graph : Graph = c.args.topology.now in
    let control = c.args.control.now in
    IfOk-weaker c.work_control.result
    (λ (step : Step). (node : NodeId) (own : List Record) (place : ℕ) (keep : Bool) → host.Stands graph node.0 own c.in-Host.host
    → host.Works graph node.0 own (told node control place keep step) c.work_control.new.self)
    (λ (step : Step). (node : NodeId) (own : List Record) (place : ℕ) (keep : Bool) → Stands graph node.0 own c.args.self.now
    → Works graph node.0 own (told node control place keep step) (Host c.work_control.new.self))
    (λ step works node own place keep stands.
    let done = works node own place keep (subst (λ (n : Node). Stands graph node.0 own n) c.in-Host.is stands) in
    record { rules = done.rules; stands = done.stands })
    c.work_control.ensures.ok

pub returns-in-Half-clause-ok : goal.returns-in-Half-clause-ok
returns-in-Half-clause-ok c =
    let graph : Graph = c.args.topology.now in
    let control = c.args.control.now in
    IfOk-weaker c.work_control-in-Half.result
    (λ (step : Step). (node : NodeId) (own : List Record) (place : ℕ) (keep : Bool) → half.Stands graph node.0 own c.in-Half.half
    → half.Works graph node.0 own (told node control place keep step) c.work_control-in-Half.new.self)
    (λ (step : Step). (node : NodeId) (own : List Record) (place : ℕ) (keep : Bool) → Stands graph node.0 own c.args.self.now
    → Works graph node.0 own (told node control place keep step) (Half c.work_control-in-Half.new.self))
    (λ step works node own place keep stands.
    let done = works node own place keep (subst (λ (n : Node). Stands graph node.0 own n) c.in-Half.is stands) in
    record { rules = done.rules; stands = done.stands })
    c.work_control-in-Half.ensures.ok
