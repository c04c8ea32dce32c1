use Rattle.std.proofs.Common.{◌≡◌, ℕ, ◌∷◌, ap, sym, subst, ◌∙◌}
use Rattle.pipe_base.specs.declared.name.HostId.{HostId}
use Rattle.pipe_base.specs.declared.name.NodeId.{NodeId}
use Rattle.pipe_base.specs.declared.step.Step.{Step}
use Rattle.pipe_model.specs.declared.record.Record.{Record}
use Rattle.pipe_model.specs.Run.{IsNodeStep}
use Rattle.pipe_host.specs.Host.{Stands, StandsWith, Does}
use Rattle.pipe_model.specs.Records as records
use Rattle.pipe_host.proofs.host.Host.send.Goals as goal

pub returns-clause-ok : goal.returns-clause-ok
returns-clause-ok c = λ graph host own stands.
    let sent : HostId → Record = λ (h : HostId). records.sent h c.args.service c.args.now c.args.dests c.in_ok-worked.worked in
    let works = c.in_ok-worked.ensures.ok graph host own stands in
    let me : HostId = record { 0 = c.node.result.0 } in
    let me_is : me ≡ host = ap {B = HostId} (λ (n : NodeId). record { 0 = n.0 }) c.node.ensures ∙ ap {B = HostId} (λ (n : ℕ). record { 0 = n }) works.stands.links_are.stands.node_is in
    let rules : IsNodeStep graph host.0 own (sent me) = subst (λ (h : HostId). IsNodeStep graph host.0 own (sent h)) (sym me_is) works.rules in
    let ready : StandsWith graph host.0 own (sent me) c.work_send.new.self = subst (λ (h : HostId). StandsWith graph host.0 own (sent h) c.work_send.new.self) (sym me_is) works.stands in
    subst (λ (s : Step). Does graph host.0 own (records.sent host c.args.service c.args.now c.args.dests s) c.follow.new.self) (sym c.into_step.ensures)
    (record {
      rules = works.rules;
      stands = subst (λ (h : HostId). Stands graph host.0 (sent h ∷ own) c.follow.new.self) me_is (c.follow.ensures graph host.0 own ready tt rules);
    })
