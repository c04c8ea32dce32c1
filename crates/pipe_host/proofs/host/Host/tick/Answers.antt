use Rattle.std.proofs.Common.{◌≡◌, ◌∷◌, sym, subst, ◌∙◌}
use Rattle.pipe_base.specs.declared.name.NodeId.{NodeId}
use Rattle.pipe_base.specs.declared.step.Step.{Step}
use Rattle.pipe_model.specs.declared.record.Record.{Record}
use Rattle.pipe_model.specs.Run.{IsNodeStep}
use Rattle.pipe_host.specs.Host.{Does, Stands, StandsWith}
use Rattle.pipe_model.specs.Records as records
use Rattle.pipe_host.proofs.host.Host.tick.Goals as goal

pub returns-clause-ok : goal.returns-clause-ok
returns-clause-ok c = λ graph node own stands.
    let ticked : NodeId → Record = λ (n : NodeId). records.ticked n c.args.now c.in_ok-worked.worked in
    let works = c.in_ok-worked.ensures graph node own stands in
    let me : NodeId = c.node.result in
    let me_is : me ≡ node = c.node.ensures ∙ (λ i. record { 0 = stands.links_are.node_is i }) in
    let rules : IsNodeStep graph node.0 own (ticked me) = subst (λ (n : NodeId). IsNodeStep graph node.0 own (ticked n)) (sym me_is) works.rules in
    let ready : StandsWith graph node.0 own (ticked me) c.args.self.now = subst (λ (n : NodeId). StandsWith graph node.0 own (ticked n) c.args.self.now) (sym me_is) works.stands in
    subst (λ (s : Step). Does graph node.0 own (records.ticked node c.args.now s) c.follow.new.self) (sym c.into_step.ensures)
    (record {
      rules = works.rules;
      stands = subst (λ (n : NodeId). Stands graph node.0 (ticked n ∷ own) c.follow.new.self) me_is (c.follow.ensures graph node.0 own ready tt rules);
    })
