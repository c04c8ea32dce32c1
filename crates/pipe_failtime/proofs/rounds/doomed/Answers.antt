use Rattle.std.proofs.Common.{ℕ, Bool, List, ap, ◌∙◌}
use Rattle.pipe_topo.specs.Reports.{report_of}
use Rattle.pipe_topo.specs.Sets.{has}
use Rattle.pipe_graph.specs.Doomed.{doomed}
use Rattle.pipe_failtime.specs.Reaching.{Reaching}
use Rattle.pipe_graph.specs.Reported.{unreported}
use Rattle.pipe_failtime.proofs.rounds.doomed.Goals as goal

pub returns : goal.returns
returns c =
    let g = c.args.topology.now in
    let members = has c.args.members.now in
    let copy = has c.copy.result in
    c.after_rounds.ensures
    ∙ ap (λ (r : Reaching). doomed r.graph (has r.by) members copy) c.in_ok-reach.ensures
    ∙ ap (λ (by : ℕ → Bool). doomed g by members copy) c.in_ok-by.ensures.value
    ∙ ap (λ (before : List Bool). doomed g (unreported (has c.args.live.now) (report_of c.args.reports.now)) members (has before)) c.copy.ensures.value
