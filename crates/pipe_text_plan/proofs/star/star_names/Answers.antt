use Rattle.std.proofs.Common.{◌≡◌, All, false, codes, refl, ap, sym, subst, ◌∙◌, arith}
use Rattle.pipe_topo.specs.NodeNames.{has_dot}
use Rattle.pipe_text_plan.specs.Star.{star_names}
use Rattle.pipe_text_plan.proofs.StarLaws.{host_more, switch_last, hosts_size, star_dotless}
use Rattle.pipe_text_plan.proofs.star.star_names.Goals as goal

pub add-requires : goal.add-requires
add-requires c = omega (arith, hosts_size c.loop-host.names c.loop-host.host-counter c.loop-host.invariant)

pub loop-host-preserved : goal.loop-host-preserved
loop-host-preserved c =
    host_more c.loop-host.names c.add.new.self c.as_str.result.now c.loop-host.host-counter c.in_ok-add.field-0 (omega arith) c.loop-host.invariant
    (c.as_str.ensures.value ∙ c.in_ok-name.ensures.ok) c.in_ok-add.ensures.added c.in_ok-add.ensures.names

pub add-requires-2 : goal.add-requires-2
add-requires-2 c = omega (arith, hosts_size c.loop-host.names c.loop-host.host-counter c.loop-host.invariant)

pub returns : goal.returns
returns c =
    let whole : c.loop-host.host-counter ≡ c.args.hosts = omega arith in
    let names : c.add-2.new.self ≡ star_names c.args.hosts = switch_last c.loop-host.names c.add-2.new.self (codes "s0") c.loop-host.host-counter c.in_ok-add-2.field-0 c.loop-host.invariant refl
    c.in_ok-add-2.ensures.added c.in_ok-add-2.ensures.names
    ∙ ap star_names whole in
    record { names = names; dotless = subst (All (λ name. has_dot name ≡ false)) (sym names) (star_dotless c.args.hosts (c.requires)) }
