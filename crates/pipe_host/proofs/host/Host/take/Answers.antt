use Rattle.std.proofs.Common.{false, sym, subst}
use Rattle.pipe_base.specs.declared.step.Step.{Step}
use Rattle.pipe_host.specs.Host.{Does}
use Rattle.pipe_model.specs.Records.{taken}
use Rattle.pipe_host.proofs.host.Host.take.Goals as goal

-- the place and what is kept make no difference to what the host keeps
pub returns-clause-ok : goal.returns-clause-ok
returns-clause-ok c = λ graph node own place keep stands comes.
    let works = c.in_ok-worked.ensures.ok graph node own 0 false stands comes in
    let after = c.follow.ensures graph node own works.stands comes works.rules in
    let links = after.links_are in
    let rules = (c.in_ok-worked.ensures.ok graph node own place keep stands comes).rules in
    subst (λ (s : Step). Does graph node own (taken c.args.link c.args.packet place keep s) c.follow.new.self) (sym c.into_step.ensures)
    (record {
      rules = rules;
      stands = record {
        host = after.host;
        links_are = record {
          node_is = links.node_is;
          within = links.within;
          ins_are = links.ins_are;
          ways_are = links.ways_are;
          none_ahead = links.none_ahead;
          history = (stands.links_are.history, rules);
        };
        next_is = after.next_is;
        top_is = after.top_is;
        held_are = after.held_are;
        sender_is = after.sender_is;
      };
    })
