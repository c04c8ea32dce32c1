use Rattle.std.proofs.Common.{Some, None}
use Rattle.pipe_base.specs.Moment.{has_link}
use Rattle.pipe_barrier.specs.Register.{register_of}
use Rattle.pipe_barrier.proofs.Standing.{found_is, up_is}
use Rattle.pipe_barrier.proofs.registers.Registers.is_up.Goals as goal

pub returns-in-Some : goal.returns-in-Some
returns-in-Some c ins past stands =
    up_is (has_link c.args.link.0 ins) (Some c.in-Some.register.now) (register_of past c.args.link)
    (found_is past c.args.link ins c.args.self.now.links (Some c.in-Some.register.now) stands.links_are c.in-Some.ensures)

pub returns-in-None : goal.returns-in-None
returns-in-None c ins past stands =
    up_is (has_link c.args.link.0 ins) None (register_of past c.args.link)
    (found_is past c.args.link ins c.args.self.now.links None stands.links_are c.in-None.ensures)
