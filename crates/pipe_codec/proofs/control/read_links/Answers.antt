use Rattle.std.proofs.Common.{arith}
use Rattle.pipe_codec.proofs.ControlLaws.{all-links, more-links}
use Rattle.pipe_codec.proofs.control.read_links.Goals as goal

pub links-preserved : goal.links-preserved
links-preserved c =
    more-links c.links.links c.push.new.self c.two_at.result c.links.rest.now c.split_at.result.0.now c.split_at.result.1.now c.args.contents.now
    (λ i. omega (arith, c.type_inv.contents i)) c.links-test.true c.split_at.ensures.front c.split_at.ensures.back c.two_at.ensures c.in_ok-push.ensures.ok c.links.invariant.spelled c.links.invariant.names

pub returns-clause-spelled : goal.returns-clause-spelled
returns-clause-spelled c = all-links c.links.links c.links.rest.now c.args.contents.now c.requires c.links-test.false c.links.invariant.spelled
