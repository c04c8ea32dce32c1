use Rattle.std.proofs.Common.{◌&&◌, not, length}
use Rattle.pipe_control.specs.Known.{view_of}
use Rattle.pipe_failtime.specs.Filled.{IsFilled}
use Rattle.pipe_model.specs.Decision.{is_dead}
use Rattle.pipe_topo.specs.Sets.{has}
use Rattle.pipe_control.proofs.controller.Controller.links_left.Given as goal

abbrev pub invariant-loop-link : goal.invariant-loop-link
invariant-loop-link l =
    IsFilled l.left (length l.topology.links) (λ n. has l.self.live n && not (is_dead l.topology (view_of l.self) n)) l.link
