use Rattle.std.proofs.Common.{◌+◌, ◌<◌, List, sym, ap, ◌∙◌, arith}
use Rattle.std.specs.List.{list_all}
use Rattle.pipe_base.specs.declared.name.HostId.{HostId}
use Rattle.pipe_control.specs.Known.{view_of}
use Rattle.pipe_control.proofs.ListLaws.{all_less, from_next, none_all}
use Rattle.pipe_control.proofs.NewsLaws.{hosts_from}
use Rattle.pipe_model.specs.Decision.{host_id, is_over}
use Rattle.pipe_control.proofs.controller.Controller.all_over.Goals as goal

pub returns-then-not-is_over : goal.returns-then-not-is_over
returns-then-not-is_over c =
    let g = c.args.topology.now in
    let over = λ (h : HostId). is_over (view_of c.args.self.now) h.0 in
    let test = c.loop-host-test.true in
    let end = c.hosts-host-end.ensures.value in
    let host = c.loop-host.host in
    let lt : host < g.hosts = omega arith in
    sym (none_all over (host_id host) (hosts_from g (host + 1)) (sym c.is_over.ensures ∙ c.if-not-is_over.true))
    ∙ sym (ap (λ (hs : List HostId). list_all over hs) (from_next host_id host g.hosts lt)) ∙ c.loop-host.invariant

pub loop-host-preserved : goal.loop-host-preserved
loop-host-preserved c =
    let g = c.args.topology.now in
    let over = λ (h : HostId). is_over (view_of c.args.self.now) h.0 in
    let test = c.loop-host-test.true in
    let end = c.hosts-host-end.ensures.value in
    let host = c.loop-host.host in
    let lt : host < g.hosts = omega arith in
    sym (all_less over (host_id host) (hosts_from g (host + 1)) (sym c.is_over.ensures ∙ c.if-not-is_over.false))
    ∙ sym (ap (λ (hs : List HostId). list_all over hs) (from_next host_id host g.hosts lt)) ∙ c.loop-host.invariant
