use Rattle.std.proofs.Common.{◌≡◌, ◌∷◌, false, sym, subst, ◌∙◌}
use Rattle.pipe_base.specs.declared.name.NodeId.{NodeId}
use Rattle.pipe_base.specs.declared.step.Step.{Step}
use Rattle.pipe_links.specs.Links as links
use Rattle.pipe_model.specs.declared.record.Record.{Record}
use Rattle.pipe_model.specs.Run.{IsNodeStep}
use Rattle.pipe_switch.specs.Half.{Does}
use Rattle.pipe_model.specs.Records.{told}
use Rattle.pipe_switch.proofs.half.Half.control.Goals as goal

-- the place and what is kept make no difference to what the half keeps
pub returns-clause-ok : goal.returns-clause-ok
returns-clause-ok c = λ node own place keep stands.
    let graph = c.args.topology.now in
    let made : NodeId → Record = λ (n : NodeId). told n c.args.control 0 false c.in_ok-worked.worked in
    let works = c.in_ok-worked.ensures.ok node own 0 false stands in
    let me_is : c.node.result ≡ node = c.node.ensures ∙ (λ i. record { 0 = works.stands.links_are.stands.node_is i }) in
    let rules = (c.in_ok-worked.ensures.ok node own place keep stands).rules in
    let follows = subst (λ (n : NodeId). links.Stands graph node.0 (made n ∷ own) c.follow.new.self) me_is
    (c.follow.ensures graph node.0 own (subst (λ (n : NodeId). links.StandsWith graph node.0 own (made n) c.work_control.new.self.links) (sym me_is) works.stands.links_are) tt
    (subst (λ (n : NodeId). IsNodeStep graph node.0 own (made n)) (sym me_is) works.rules)) in
    subst (λ (s : Step). Does graph node.0 own (told node c.args.control place keep s) (record c.args.self.now { links = c.follow.new.self })) (sym c.into_step.ensures)
    (record {
      rules = rules;
      stands = record {
        half = stands.half;
        links_are = record {
          node_is = follows.node_is;
          within = follows.within;
          ins_are = follows.ins_are;
          ways_are = follows.ways_are;
          none_ahead = follows.none_ahead;
          history = (stands.links_are.history, rules);
        };
      };
    })
