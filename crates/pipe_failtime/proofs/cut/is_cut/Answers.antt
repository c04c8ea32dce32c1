use Rattle.std.proofs.Common.{ℕ, Bool, not, ap, ◌∙◌}
use Rattle.pipe_topo.specs.Sets.{has}
use Rattle.pipe_graph.specs.Cut.{is_cut}
use Rattle.pipe_failtime.proofs.cut.is_cut.Goals as goal

pub returns : goal.returns
returns c =
    ap (λ (t : Bool). not t) c.in_ok-reached.ensures
    ∙ ap (λ (by : ℕ → Bool). is_cut c.args.topology.now by (has c.args.kept.now) c.args.host.0) c.in_ok-by.ensures.value
