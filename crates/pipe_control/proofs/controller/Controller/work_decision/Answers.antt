use Rattle.std.proofs.Common.{ap, ◌∙◌}
use Rattle.pipe_control.specs.declared.controller.Controller.{Controller}
use Rattle.pipe_control.specs.Known.{view_of}
use Rattle.pipe_control.proofs.KnownLaws.{after_three, decides}
use Rattle.pipe_model.specs.Decision.{after_doom}
use Rattle.pipe_control.proofs.controller.Controller.work_decision.Goals as goal

pub returns-clause-decision : goal.returns-clause-decision
returns-clause-decision c = λ v stands.
    let g = c.args.topology.now in
    let first = c.in_ok-doom.ensures.known ∙ ap (λ (k : Controller). after_doom g (view_of k)) c.in_ok-next.ensures in
    decides g v c.args.self.now c.doom.new.self c.announce.new.self c.drop_dead.new.self (record { announced = c.in_ok-announced.announced; dropped = c.in_ok-dropped.dropped; put = c.in_ok-put.put })
    stands.known first c.in_ok-announced.ensures.known.known c.in_ok-dropped.ensures.known.known c.in_ok-announced.ensures.news c.in_ok-dropped.ensures.dead c.in_ok-put.ensures

pub returns-clause-change : goal.returns-clause-change
returns-clause-change c = λ v stands.
    let g = c.args.topology.now in
    let first = c.in_ok-doom.ensures.known ∙ ap (λ (k : Controller). after_doom g (view_of k)) c.in_ok-next.ensures in
    record {
      next = record {
        fits = c.in_ok-dropped.ensures.known.fits;
        known = after_three g v c.args.self.now c.doom.new.self c.announce.new.self c.drop_dead.new.self stands.known first c.in_ok-announced.ensures.known.known c.in_ok-dropped.ensures.known.known;
      };
    }
