use Rattle.std.proofs.Common.{arith}
use Rattle.pipe_codec.proofs.ControlLaws.{all-announced, more-announced}
use Rattle.pipe_codec.proofs.control.read_announced.Goals as goal

pub entries-preserved : goal.entries-preserved
entries-preserved c =
    more-announced c.entries.list c.push.new.self c.two_at.result c.six_at.result c.entries.rest.now c.split_at.result.0.now c.split_at.result.1.now c.args.contents.now
    (λ i. omega (arith, c.type_inv.contents i)) c.entries-test.true c.split_at.ensures.front c.split_at.ensures.back c.two_at.ensures c.six_at.ensures c.in_ok-push.ensures.ok c.entries.invariant.spelled c.entries.invariant.times c.entries.invariant.hosts

pub returns-clause-spelled : goal.returns-clause-spelled
returns-clause-spelled c = all-announced c.entries.list c.entries.rest.now c.args.contents.now c.requires c.entries-test.false c.entries.invariant.spelled
