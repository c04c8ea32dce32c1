use Rattle.std.proofs.Common.{◌≡◌, ℕ, Bool, true, false, List, sym, subst, ◌∙◌}
use Rattle.std.proofs.lemmas.Result.{IfOk-weaker}
use Rattle.pipe_base.specs.declared.step.Step.{Step}
use Rattle.pipe_graph.specs.Graph.{Graph, ins_of}
use Rattle.pipe_base.specs.Moment.{has_link, is_up}
use Rattle.pipe_model.specs.declared.record.Record.{Record}
use Rattle.pipe_model.specs.Moments.{moments_of}
use Rattle.pipe_model.specs.Run.{IsNodeStep}
use Rattle.pipe_switch.specs.Half.{IsPassing, Stands, Works}
use Rattle.pipe_model.specs.Records.{taken}
use Rattle.pipe_switch.proofs.HalfSteps.{ignores, passes, stops, up_from, works_taken}
use Rattle.pipe_switch.proofs.half.Half.work_take.Goals as goal

pub returns-then-not-is_up : goal.returns-then-not-is_up
returns-then-not-is_up c = λ graph node own place keep stands comes.
    let down : is_up (moments_of graph node own) c.args.link.0 ≡ false =
    up_from c.is_up.result (has_link c.args.link.0 (ins_of graph node)) (is_up (moments_of graph node own) c.args.link.0) (c.is_up.ensures graph node own stands.links_are) comes
    ∙ c.if-not-is_up.true in
    let rules : IsNodeStep graph node own (taken c.args.link c.args.packet.now place keep c.quiet.result) =
    subst (λ (s : Step). IsNodeStep graph node own (taken c.args.link c.args.packet.now place keep s)) (sym c.quiet.ensures)
    (ignores graph node own c.args.link c.args.packet.now place keep stands.half down) in
    works_taken graph node own c.args.link c.args.packet.now place keep c.quiet.result c.args.self.now stands rules

pub returns-then-is_beacon : goal.returns-then-is_beacon
returns-then-is_beacon c = λ graph node own place keep stands comes.
    let up : is_up (moments_of graph node own) c.args.link.0 ≡ true =
    up_from c.is_up.result (has_link c.args.link.0 (ins_of graph node)) (is_up (moments_of graph node own) c.args.link.0) (c.is_up.ensures graph node own stands.links_are) comes
    ∙ c.if-not-is_up.false in
    works_taken graph node own c.args.link c.args.packet.now place keep c.quiet-then-is_beacon.result c.args.self.now stands
    (stops graph node own c.args.link c.args.packet.now place keep c.quiet-then-is_beacon.result stands.half up (sym c.is_beacon.ensures ∙ c.if-is_beacon.true) c.quiet-then-is_beacon.ensures)

pub returns : goal.returns
returns c =
    IfOk-weaker c.pass_on.result (IsPassing c.args.self.now c.args.link c.args.packet.now)
    (λ (step : Step). (graph : Graph) (node : ℕ) (own : List Record) (place : ℕ) (keep : Bool) → Stands graph node own c.args.self.now
    → has_link c.args.link.0 (ins_of graph node) ≡ true → Works graph node own (taken c.args.link c.args.packet.now place keep step) c.args.self.now)
    (λ step passing graph node own place keep stands comes.
    let up : is_up (moments_of graph node own) c.args.link.0 ≡ true =
    up_from c.is_up.result (has_link c.args.link.0 (ins_of graph node)) (is_up (moments_of graph node own) c.args.link.0) (c.is_up.ensures graph node own stands.links_are) comes
    ∙ c.if-not-is_up.false in
    works_taken graph node own c.args.link c.args.packet.now place keep step c.args.self.now stands
    (passes graph node own c.args.link c.args.packet.now place keep passing.barriers step stands.half up
    (passing.barriers_are graph node own stands.links_are) (passing.step_is graph node own stands.links_are)))
    c.pass_on.ensures
