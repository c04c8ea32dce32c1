use Rattle.std.proofs.Common.{◌+◌, ◌<◌, ◌++◌, ◌∷◌, [], List, map, filter, sym, ap, ◌∙◌, arith}
use Rattle.pipe_base.specs.declared.control.Addressed.{Addressed}
use Rattle.pipe_base.specs.declared.name.HostId.{HostId}
use Rattle.pipe_control.specs.Known.{view_of}
use Rattle.pipe_control.proofs.ListLaws.{from_next, turn_in, turn_out}
use Rattle.pipe_control.proofs.NewsLaws.{hosts_from}
use Rattle.pipe_model.specs.Decision.{host_id, is_behind, notice}
use Rattle.pipe_control.proofs.controller.Controller.put_notices.Goals.{then-is_behind+in_ok-notice+in_ok-push, else-is_behind}
use Rattle.pipe_control.proofs.controller.Controller.put_notices.Goals as goal

pub loop-host-preserved : goal.loop-host-preserved
loop-host-preserved c =
    let g = c.args.topology.now in
    let v = view_of c.args.self.now in
    let test = c.loop-host-test.true in
    let end = c.hosts-host-end.ensures.value in
    let host = c.loop-host.host in
    let lt : host < g.hosts = omega arith in
    let put = c.loop-host.put in
    let rest = hosts_from g (host + 1) in
    let tells = λ (h : HostId). is_behind v h.0 in
    let still = map (notice v) (filter tells rest) in
    let before = ap (λ (hs : List HostId). put ++ map (notice v) (filter tells hs)) (from_next host_id host g.hosts lt) in
    elim c.if-is_behind.branch [
      | then-is_behind+in_ok-notice+in_ok-push w ↦
          ap (λ (xs : List Addressed). xs ++ still) (w.put-is ∙ w.in_ok-push.ensures.ok ∙ ap (λ (a : Addressed). put ++ a ∷ []) w.in_ok-notice.ensures)
          ∙ sym (turn_in (notice v) tells put (host_id host) rest (sym c.is_behind.ensures ∙ w.if-is_behind.true))
          ∙ sym before ∙ c.loop-host.invariant
      | else-is_behind w ↦
          ap (λ (xs : List Addressed). xs ++ still) w.put-is
          ∙ sym (turn_out (notice v) tells put (host_id host) rest (sym c.is_behind.ensures ∙ w.if-is_behind.false))
          ∙ sym before ∙ c.loop-host.invariant
    ]
