use Rattle.std.proofs.Common.{◌≡◌, ℕ, ◌+◌, Bool, List, sym, subst, ◌∙◌, arith}
use Rattle.pipe_graph.specs.Reach.{reaches}
use Rattle.pipe_topo.specs.Sets.{has}
use Rattle.pipe_topo.proofs.ReachLaws.{near_is_reach}
use Rattle.pipe_failtime.specs.Filled.{IsFilled}
use Rattle.pipe_failtime.proofs.FilledLaws.{filled_in, filled_none, filled_out}
use Rattle.pipe_failtime.proofs.reach.reachers.Goals as goal
use Rattle.pipe_failtime.proofs.reach.reachers.Goals.{then-leads_on, else-leads_on}

pub loop-host-init : goal.loop-host-init
loop-host-init c =
    let test = λ (host : ℕ). reaches c.args.topology.now (has c.args.by.now) host c.args.node.0 in
    subst (λ (set : List Bool). IsFilled set 64 test 0) (sym c.none-reachers.ensures) (filled_none 64 test)

pub loop-host-preserved : goal.loop-host-preserved
loop-host-preserved c =
    let g = c.args.topology.now in
    let host = c.loop-host.host in
    let node = c.args.node.0 in
    let test = λ (a : ℕ). reaches g (has c.args.by.now) a node in
    let few = c.to.ensures.few in
    let few_hosts = c.hosts-host-end.ensures.few in
    let is : c.leads_on.result ≡ reaches g (has c.args.by.now) host node =
    c.leads_on.ensures ∙ near_is_reach g (has c.args.by.now) host node c.in_ok-away.away c.to.ensures.graph (omega arith) c.in_ok-away.ensures.right in
    elim c.if-leads_on.branch [
      | then-leads_on w ↦
          subst (λ (set : List Bool). IsFilled set 64 test (host + 1)) (sym (w.reachers-is ∙ w.insert.ensures))
          (filled_in c.loop-host.reachers 64 test host c.loop-host.invariant (omega arith) (sym is ∙ w.if-leads_on.true))
      | else-leads_on w ↦
          subst (λ (set : List Bool). IsFilled set 64 test (host + 1)) (sym w.reachers-is)
          (filled_out c.loop-host.reachers 64 test host c.loop-host.invariant (sym is ∙ w.if-leads_on.false))
    ]
