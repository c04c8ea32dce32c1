use Rattle.std.proofs.Common.{sym, ◌∙◌, arith}
use Rattle.pipe_graph.proofs.BelowLaws.{any_below_from}
use Rattle.pipe_topo.specs.Sets.{has}
use Rattle.pipe_graph.specs.Doomed.{is_stranger}
use Rattle.pipe_failtime.proofs.first.has_strangers.Goals as goal

pub returns-then-is_stranger : goal.returns-then-is_stranger
returns-then-is_stranger c =
    let g = c.args.reach.now in
    sym (any_below_from (is_stranger g.graph (has g.by) (has c.args.left.now)) g.graph.hosts c.loop-host.host (omega arith) (sym c.is_stranger.ensures ∙ c.if-is_stranger.true))
