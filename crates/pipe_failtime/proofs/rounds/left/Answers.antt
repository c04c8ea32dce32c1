use Rattle.std.proofs.Common.{Bool, List, sym, subst}
use Rattle.pipe_topo.specs.Sets.{has}
use Rattle.pipe_graph.specs.Doomed.{is_left}
use Rattle.pipe_failtime.specs.Filled.{IsFilled}
use Rattle.pipe_failtime.proofs.FilledLaws.{filled_none}
use Rattle.pipe_failtime.proofs.rounds.left.Goals as goal

pub loop-host-init : goal.loop-host-init
loop-host-init c =
    let test = is_left c.args.reach.now.graph (has c.args.members.now) (has c.args.doomed.now) in
    subst (λ (set : List Bool). IsFilled set 64 test 0) (sym c.none-left.ensures) (filled_none 64 test)
