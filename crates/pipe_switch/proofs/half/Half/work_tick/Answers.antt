use Rattle.std.proofs.Common.{◌≡◌, List, refl, ap, ◌∙◌}
use Rattle.std.proofs.lemmas.Result.{IfOk-weaker}
use Rattle.pipe_base.specs.declared.name.LinkId.{LinkId}
use Rattle.pipe_base.specs.declared.name.NodeId.{NodeId}
use Rattle.pipe_base.specs.declared.step.Step.{Step}
use Rattle.pipe_graph.specs.Graph.{Graph}
use Rattle.pipe_model.specs.declared.record.Record.{Record}
use Rattle.pipe_model.specs.Run.{IsNodeStep}
use Rattle.pipe_links.proofs.Follows.{ready}
use Rattle.pipe_switch.specs.Half.{Stands, Works, beat}
use Rattle.pipe_model.specs.Records.{ticked}
use Rattle.pipe_switch.proofs.HalfSteps.{ticks}
use Rattle.pipe_switch.proofs.half.Half.work_tick.Goals as goal

pub returns : goal.returns
returns c =
    let b = c.in_ok-barriers.barriers in
    let marks = c.in_ok-downed.downed in
    let tells = c.in_ok-told.told in
    let all = c.tell_gone.new.told in
    IfOk-weaker c.beat.result (λ (kept : Step). kept ≡ beat c.args.self.now.links.ways.outs b marks all)
    (λ (kept : Step). (graph : Graph) (node : NodeId) (own : List Record) → Stands graph node.0 own c.args.self.now → Works graph node.0 own (ticked node c.args.now kept) c.args.self.now)
    (λ kept is graph node own stands.
    let rules : IsNodeStep graph node.0 own (ticked node c.args.now kept) =
    ticks graph node own c.args.now marks tells all b kept stands.half stands.links_are.history
    (c.in_ok-downed.ensures graph node.0 own stands.links_are) (c.in_ok-told.ensures graph node.0 own stands.links_are)
    (c.in_ok-tell_gone.ensures.ok graph node.0 own stands.links_are) (c.in_ok-barriers.ensures graph node.0 own stands.links_are)
    (is ∙ ap (λ (ls : List LinkId). beat ls b marks all) stands.links_are.ways_are.outs_are) in
    record { rules = rules; stands = record { half = stands.half; links_are = ready graph node.0 own (ticked node c.args.now kept) c.args.self.now.links stands.links_are rules refl } })
    c.beat.ensures
