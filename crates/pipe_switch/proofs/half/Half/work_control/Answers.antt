use Rattle.std.proofs.Common.{◌≡◌, List, ◌∷◌, ◌++◌, sym, subst, ap, ap₂, ◌∙◌}
use Rattle.pipe_base.specs.declared.name.LinkId.{LinkId}
use Rattle.pipe_base.specs.declared.name.Ts.{Ts}
use Rattle.pipe_base.specs.declared.step.Outcome.TheVariants.{Ok}
use Rattle.pipe_base.specs.declared.step.Step.{Step}
use Rattle.pipe_base.specs.Step.{quiet_step}
use Rattle.pipe_links.proofs.Follows.{prepared}
use Rattle.pipe_links.specs.Links as links
use Rattle.pipe_links.specs.Ways.{AreWays}
use Rattle.pipe_links.specs.declared.links.Links.{Links}
use Rattle.pipe_model.specs.declared.record.Record.{Record}
use Rattle.pipe_model.specs.Moments.{known_drops}
use Rattle.pipe_model.specs.Records.{told}
use Rattle.pipe_switch.proofs.HalfSteps.{obeys}
use Rattle.pipe_switch.proofs.half.Half.work_control.Goals as goal

pub returns-clause-ok : goal.returns-clause-ok
returns-clause-ok c = λ node own place keep stands.
    let graph = c.args.topology.now in
    let control = c.args.control.now in
    let k : Links = c.args.self.now.links in
    let marks = c.in_ok-step.field-0 in
    let drops = c.in_ok-step-2.field-0 in
    let ahead = c.in_ok-ahead.ahead in
    let worked : Step = c.in_ok-worked.worked in
    let r : Record = told node control place keep worked in
    let worked_is : worked ≡ record (quiet_step Ok) { downed = marks; dropped = drops } =
    c.in_ok-worked.ensures ∙ ap (λ (s : Step). record s { downed = marks; dropped = drops }) c.new-step.ensures in
    let are : AreWays graph node.0 (known_drops (r ∷ own)) (links.next_ways (record k { ahead = ahead })) =
    subst (λ (ds : List LinkId). AreWays graph node.0 (known_drops own ++ ds) (links.next_ways (record k { ahead = ahead }))) (sym (ap (λ (s : Step). s.dropped) worked_is))
    (c.in_ok-ahead.ensures node.0 own stands.links_are) in
    record {
      rules =
          obeys graph node own control place keep worked stands.half
          (worked_is
          ∙ ap₂ (λ (ms : List (LinkId × Ts)) (ds : List LinkId). record (quiet_step Ok) { downed = ms; dropped = ds }) (c.in_ok-step.ensures graph node.0 own stands.links_are)
          (c.in_ok-step-2.ensures graph node.0 own stands.links_are));
      stands = record {
        half = stands.half;
        links_are = subst (links.StandsWith graph node.0 own r) (sym c.prepare.ensures) (prepared graph node.0 own r k ahead stands.links_are are);
      };
    }
