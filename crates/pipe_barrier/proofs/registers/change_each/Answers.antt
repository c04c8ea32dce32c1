use Rattle.std.proofs.Common.{◌<◌, length, false, arith}
use Rattle.pipe_barrier.specs.declared.register.Register.{Register}
use Rattle.pipe_barrier.specs.Register.{register_after}
use Rattle.pipe_barrier.proofs.Walk.{links_turn, links_at_end}
use Rattle.pipe_barrier.proofs.registers.change_each.Goals as goal

-- what is read past the end
none : Register
none = record { link = record { 0 = 0 }; be = record { 0 = 0 }; commit = record { 0 = 0 }; up = false; retained = false }

pub links-preserved : goal.links-preserved
unfolding none
links-preserved c =
    let within : c.links.register-index < length c.links.links = omega arith in
    links_turn (register_after c.args.link c.args.change) c.args.links.now c.links.links c.links.register-index none c.change.new.self c.links-test.true within c.links.invariant c.change.ensures

pub returns : goal.returns
returns c = links_at_end (register_after c.args.link c.args.change) c.args.links.now c.links.links c.links.register-index c.links-test.false c.links.invariant
