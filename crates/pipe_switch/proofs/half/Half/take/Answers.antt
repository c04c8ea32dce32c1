use Rattle.std.proofs.Common.{false, sym, subst}
use Rattle.pipe_base.specs.declared.step.Step.{Step}
use Rattle.pipe_switch.specs.Half.{Does}
use Rattle.pipe_model.specs.Records.{taken}
use Rattle.pipe_switch.proofs.half.Half.take.Goals as goal

-- the place and what is kept make no difference to what the half keeps
pub returns-clause-ok : goal.returns-clause-ok
returns-clause-ok c = λ graph node own place keep stands comes.
    let works = c.in_ok-work_take.ensures graph node own 0 false stands comes in
    let after = c.follow.ensures graph node own works.stands.links_are comes works.rules in
    let rules = (c.in_ok-work_take.ensures graph node own place keep stands comes).rules in
    subst (λ (s : Step). Does graph node own (taken c.args.link c.args.packet place keep s) (record c.args.self.now { links = c.follow.new.self })) (sym c.into_step.ensures)
    (record {
      rules = rules;
      stands = record {
        half = stands.half;
        links_are = record {
          node_is = after.node_is;
          within = after.within;
          ins_are = after.ins_are;
          ways_are = after.ways_are;
          none_ahead = after.none_ahead;
          history = (stands.links_are.history, rules);
        };
      };
    })
