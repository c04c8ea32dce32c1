use Rattle.std.proofs.Common.{◌<◌, length, None, arith}
use Rattle.pipe_base.specs.Silence.{Took}
use Rattle.pipe_barrier.specs.declared.quiet.Quiet.{Quiet}
use Rattle.pipe_barrier.specs.Silence.{quiet_after}
use Rattle.pipe_barrier.proofs.Walk.{links_turn, links_at_end}
use Rattle.pipe_barrier.proofs.silence.took_all.Goals as goal

-- what is read past the end
none : Quiet
none = record { link = record { 0 = 0 }; start = None }

pub links-preserved : goal.links-preserved
unfolding none
links-preserved c =
    let within : c.links.quiet-index < length c.links.links = omega arith in
    links_turn (quiet_after (Took c.args.link.0)) c.args.links.now c.links.links c.links.quiet-index none c.take.new.self c.links-test.true within c.links.invariant c.take.ensures

pub returns : goal.returns
returns c = links_at_end (quiet_after (Took c.args.link.0)) c.args.links.now c.links.links c.links.quiet-index c.links-test.false c.links.invariant
