use Rattle.std.proofs.Common.{◌≡◌, ℕ, Bool, true, List, sym, subst, ap, ◌∙◌}
use Rattle.std.proofs.lemmas.Result.{IfOk-weaker}
use Rattle.pipe_base.specs.declared.control.Addressed.{Addressed}
use Rattle.pipe_base.specs.declared.control.Control.{Control}
use Rattle.pipe_base.specs.declared.control.To.TheVariants.{Node as ToNode}
use Rattle.pipe_base.specs.declared.name.HostId.{HostId}
use Rattle.pipe_base.specs.declared.name.LinkId.{LinkId}
use Rattle.pipe_base.specs.declared.name.NodeId.{NodeId}
use Rattle.pipe_base.specs.declared.packet.Packet.{Packet}
use Rattle.pipe_base.specs.declared.step.Step.{Step}
use Rattle.pipe_graph.specs.Graph.{Graph, ins_of}
use Rattle.pipe_base.specs.Moment.{has_link}
use Rattle.pipe_model.specs.Records.{told, sent, taken, ticked, record_of}
use Rattle.pipe_model.specs.declared.event.Event.{Event}
use Rattle.pipe_model.specs.declared.event.Event.TheVariants.{ControlTake, Send, Take, Crash, Tick}
use Rattle.pipe_model.specs.declared.record.Record.{Record}
use Rattle.pipe_model.specs.declared.record.Took.{Took}
use Rattle.pipe_model.specs.declared.record.Took.TheVariants.{Nothing, Link, Message}
use Rattle.pipe_model.specs.Acting.{ComesIn}
use Rattle.pipe_model.specs.Event.{IsOfGraph}
use Rattle.pipe_world.specs.declared.node.Node.{Node}
use Rattle.pipe_world.specs.Node.{Stands, Works}
use Rattle.pipe_world.specs.Turn.{ActsAt}
use Rattle.pipe_world.proofs.WorldSteps.{comes_in}
use Rattle.pipe_world.proofs.happen.work_at.Goals as goal

-- what the acting node works out, for the event and for what it takes
abbrev WorksOut : Graph → Event → Took → Node → Node → Step → Type 0
WorksOut graph event took before after step =
    (id : NodeId) (own : List Record) → IsOfGraph graph event → ActsAt graph id event took → Stands graph id.0 own before → Works graph id.0 own (record_of event took step) after

renamed : (graph : Graph) (n : ℕ) (own : List Record) (k : Node) (event e : Event) (took t : Took) (step : Step) → event ≡ e → took ≡ t
    → Works graph n own (record_of e t step) k → Works graph n own (record_of event took step) k
renamed graph n own k event e took t step event_is took_is works =
    subst (λ (x : Event). Works graph n own (record_of x took step) k) (sym event_is) (subst (λ (x : Took). Works graph n own (record_of e x step) k) (sym took_is) works)

one_packet : (l k : LinkId) (p q : Packet) → Link l p ≡ Link k q → p ≡ q
one_packet l k p q is = cc

one_message : (m n : Addressed) → Message m ≡ Message n → m ≡ n
one_message m n is = cc

pub returns-in-Send-clause-work : goal.returns-in-Send-clause-work
returns-in-Send-clause-work c =
    let k = c.work_send.new.self in
    let event : Event = c.args.event.now in
    let took : Took = c.args.took.now in
    let e : Event = Send c.in-Send.host c.in-Send.service c.in-Send.now c.in-Send.dests in
    IfOk-weaker c.work_send.result
    (λ (step : Step). (graph : Graph) (host : HostId) (own : List Record) → Stands graph host.0 own c.args.node.now
    → Works graph host.0 own (sent host c.in-Send.service c.in-Send.now c.in-Send.dests step) k)
    (WorksOut c.args.topology.now event took c.args.node.now k)
    (λ step works id own names acts stands.
    let graph : Graph = c.args.topology.now in
    let at : (id.0 ≡ c.in-Send.host.0) × (took ≡ Nothing) = subst (λ (x : Event). ActsAt graph id x took) c.in-Send.is acts in
    renamed graph id.0 own k event e took Nothing step c.in-Send.is at.1
    (subst (λ (n : ℕ). Works graph n own (record_of e Nothing step) k) (sym at.0)
    (works graph c.in-Send.host own (subst (λ (n : ℕ). Stands graph n own c.args.node.now) at.0 stands))))
    c.work_send.ensures.ok

pub returns-in-Link-clause-work : goal.returns-in-Link-clause-work
returns-in-Link-clause-work c =
    let k = c.work_take.new.self in
    let event : Event = c.args.event.now in
    let took : Took = c.args.took.now in
    let link = c.in-Take.link in
    let p : Packet = c.in-Link.packet in
    let e : Event = Take link c.in-Take.place c.in-Take.keep in
    IfOk-weaker c.work_take.result
    (λ (step : Step). (graph : Graph) (node : ℕ) (own : List Record) (place : ℕ) (keep : Bool) → Stands graph node own c.args.node.now
    → has_link link.0 (ins_of graph node) ≡ true → Works graph node own (taken link p place keep step) k)
    (WorksOut c.args.topology.now event took c.args.node.now k)
    (λ step works id own names acts stands.
    let graph : Graph = c.args.topology.now in
    let at = subst (λ (x : Event). ActsAt graph id x took) c.in-Take.is acts in
    let same : at.1 ≡ p = one_packet link c.in-Link.link at.1 p (sym at.2 ∙ c.in-Link.is) in
    let comes : has_link link.0 (ins_of graph id.0) ≡ true = subst (ComesIn graph id.0) c.in-Take.is (comes_in graph id event took names acts) in
    renamed graph id.0 own k event e took (Link link p) step c.in-Take.is (at.2 ∙ ap (Link link) same) (works graph id.0 own c.in-Take.place c.in-Take.keep stands comes))
    c.work_take.ensures.ok

pub returns-in-Message-clause-work : goal.returns-in-Message-clause-work
returns-in-Message-clause-work c =
    let k = c.work_control.new.self in
    let event : Event = c.args.event.now in
    let took : Took = c.args.took.now in
    let control = c.in-Message.addressed.control in
    IfOk-weaker c.work_control.result
    (λ (step : Step). (node : NodeId) (own : List Record) (place : ℕ) (keep : Bool) → Stands c.args.topology.now node.0 own c.args.node.now
    → Works c.args.topology.now node.0 own (told node control place keep step) k)
    (WorksOut c.args.topology.now event took c.args.node.now k)
    (λ step works id own names acts stands.
    let graph : Graph = c.args.topology.now in
    let at = subst (λ (x : Event). ActsAt graph id x took) c.in-ControlTake.is acts in
    let same : at.0 ≡ control = ap (λ (m : Addressed). m.control) (one_message (record { to = ToNode id; control = at.0 }) c.in-Message.addressed (sym at.1 ∙ c.in-Message.is)) in
    renamed graph id.0 own k event (ControlTake c.in-ControlTake.place c.in-ControlTake.keep) took (Message (record { to = ToNode id; control = control })) step c.in-ControlTake.is
    (at.1 ∙ ap (λ (x : Control). Message (record { to = ToNode id; control = x })) same) (works id own c.in-ControlTake.place c.in-ControlTake.keep stands))
    c.work_control.ensures.ok

pub returns-in-Tick-clause-work : goal.returns-in-Tick-clause-work
returns-in-Tick-clause-work c =
    let k = c.args.node.now in
    let event : Event = c.args.event.now in
    let took : Took = c.args.took.now in
    let n : NodeId = c.in-Tick.node in
    let e : Event = Tick n c.in-Tick.now in
    IfOk-weaker c.work_tick.result
    (λ (step : Step). (graph : Graph) (node : NodeId) (own : List Record) → Stands graph node.0 own k → Works graph node.0 own (ticked node c.in-Tick.now step) k)
    (WorksOut c.args.topology.now event took k k)
    (λ step works id own names acts stands.
    let graph : Graph = c.args.topology.now in
    let at : (id ≡ n) × (took ≡ Nothing) = subst (λ (x : Event). ActsAt graph id x took) c.in-Tick.is acts in
    renamed graph id.0 own k event e took Nothing step c.in-Tick.is at.1
    (subst (λ (m : NodeId). Works graph m.0 own (record_of e Nothing step) k) (sym at.0)
    (works graph n own (subst (λ (m : NodeId). Stands graph m.0 own k) at.0 stands))))
    c.work_tick.ensures

pub returns-in-Crash-clause-work : goal.returns-in-Crash-clause-work
returns-in-Crash-clause-work c = λ id own names acts stands.
    let graph : Graph = c.args.topology.now in
    let k = c.args.node.now in
    let event : Event = c.args.event.now in
    let took : Took = c.args.took.now in
    let n : NodeId = c.in-Crash.node in
    let e : Event = Crash n in
    let at : (id ≡ n) × (took ≡ Nothing) = subst (λ (x : Event). ActsAt graph id x took) c.in-Crash.is acts in
    renamed graph id.0 own k event e took Nothing c.work_crash.result c.in-Crash.is at.1
    (subst (λ (m : NodeId). Works graph m.0 own (record_of e Nothing c.work_crash.result) k) (sym at.0)
    (c.work_crash.ensures graph n own (subst (λ (m : NodeId). Stands graph m.0 own k) at.0 stands)))
