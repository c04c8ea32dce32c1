use Rattle.std.proofs.Common.{arith}
use Rattle.pipe_text_plan.proofs.CountLaws.{feeds_bound}
use Rattle.pipe_text_plan.proofs.count.lines_above.Goals as goal

pub returns-then-line_feeds-most-clause-none : goal.returns-then-line_feeds-most-clause-none
returns-then-line_feeds-most-clause-none c = omega (arith, feeds_bound c.args.text.now)
