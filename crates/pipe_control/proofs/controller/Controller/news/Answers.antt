use Rattle.std.proofs.Common.{◌+◌, ◌<◌, ◌++◌, ◌∷◌, [], List, sym, ap, ◌∙◌, arith}
use Rattle.pipe_base.specs.declared.control.Announced.{Announced}
use Rattle.pipe_control.specs.Known.{view_of}
use Rattle.pipe_control.proofs.NewsLaws.{hosts_from, told, told_next, told_none, told_past}
use Rattle.pipe_control.proofs.controller.Controller.news.Goals.{then-is_due+in_ok-time+in-Some+in_ok-push-in-Some, else-is_due}
use Rattle.pipe_control.proofs.controller.Controller.news.Goals as goal

pub returns-in-None : goal.returns-in-None
returns-in-None c =
    let g = c.args.topology.now in
    let v = view_of c.args.self.now in
    let test = c.loop-host-test.true in
    let end = c.hosts-host-end.ensures.value in
    let lt : c.loop-host.host < g.hosts = omega arith in
    c.new.ensures
    ∙ sym (told_none g v c.loop-host.news c.loop-host.host lt (sym c.is_due.ensures ∙ c.if-is_due.true) (sym c.in_ok-time.ensures ∙ c.in-None.is))
    ∙ c.loop-host.invariant

pub loop-host-preserved : goal.loop-host-preserved
loop-host-preserved c =
    let g = c.args.topology.now in
    let v = view_of c.args.self.now in
    let test = c.loop-host-test.true in
    let end = c.hosts-host-end.ensures.value in
    let lt : c.loop-host.host < g.hosts = omega arith in
    let rest = hosts_from g (c.loop-host.host + 1) in
    elim c.if-is_due.branch [
      | then-is_due+in_ok-time+in-Some+in_ok-push-in-Some w ↦
          ap (λ (news : List Announced). told g v news rest) (w.news-is ∙ w.in_ok-push-in-Some.ensures.ok ∙ ap (λ (a : Announced). c.loop-host.news ++ a ∷ []) w.announced_at.ensures)
          ∙ sym (told_next g v c.loop-host.news c.loop-host.host w.in-Some.time lt (sym c.is_due.ensures ∙ w.if-is_due.true) (sym w.in_ok-time.ensures ∙ w.in-Some.is))
          ∙ c.loop-host.invariant
      | else-is_due w ↦
          ap (λ (news : List Announced). told g v news rest) w.news-is
          ∙ sym (told_past g v c.loop-host.news c.loop-host.host lt (sym c.is_due.ensures ∙ w.if-is_due.false))
          ∙ c.loop-host.invariant
    ]
