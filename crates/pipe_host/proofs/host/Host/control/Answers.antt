use Rattle.std.proofs.Common.{◌≡◌, ◌∷◌, false, sym, subst, ◌∙◌}
use Rattle.pipe_base.specs.declared.name.NodeId.{NodeId}
use Rattle.pipe_base.specs.declared.step.Step.{Step}
use Rattle.pipe_model.specs.declared.record.Record.{Record}
use Rattle.pipe_model.specs.Run.{IsNodeStep}
use Rattle.pipe_host.specs.Host.{Does, Stands, StandsWith}
use Rattle.pipe_model.specs.Records as records
use Rattle.pipe_host.proofs.host.Host.control.Goals as goal

-- the place and what is kept make no difference to what the host keeps
pub returns-clause-ok : goal.returns-clause-ok
returns-clause-ok c = λ node own place keep stands.
    let graph = c.args.topology.now in
    let told : NodeId → Record = λ (n : NodeId). records.told n c.args.control 0 false c.in_ok-worked.worked in
    let works = c.in_ok-worked.ensures.ok node own 0 false stands in
    let rules = (c.in_ok-worked.ensures.ok node own place keep stands).rules in
    let me_is : c.node.result ≡ node = c.node.ensures ∙ (λ i. record { 0 = works.stands.links_are.stands.node_is i }) in
    let after = subst (λ (n : NodeId). Stands graph node.0 (told n ∷ own) c.follow.new.self) me_is
    (c.follow.ensures graph node.0 own (subst (λ (n : NodeId). StandsWith graph node.0 own (told n) c.work_control.new.self) (sym me_is) works.stands) tt
    (subst (λ (n : NodeId). IsNodeStep graph node.0 own (told n)) (sym me_is) works.rules)) in
    let links = after.links_are in
    subst (λ (s : Step). Does graph node.0 own (records.told node c.args.control place keep s) c.follow.new.self) (sym c.into_step.ensures)
    (record {
      rules = rules;
      stands = record {
        host = after.host;
        links_are = record {
          node_is = links.node_is;
          within = links.within;
          ins_are = links.ins_are;
          ways_are = links.ways_are;
          none_ahead = links.none_ahead;
          history = (stands.links_are.history, rules);
        };
        next_is = after.next_is;
        top_is = after.top_is;
        held_are = after.held_are;
        sender_is = after.sender_is;
      };
    })
