use Rattle.std.proofs.Common.{◌≡◌, ◌-◌, map}
use Rattle.std.specs.List.{list_all, range_with_len}
use Rattle.pipe_control.specs.Known.{view_of}
use Rattle.pipe_model.specs.Decision.{all_over, host_id, is_over}
use Rattle.pipe_control.proofs.controller.Controller.all_over.Given as goal

abbrev pub invariant-loop-host : goal.invariant-loop-host
invariant-loop-host l =
    let v = view_of l.self in
    list_all (λ h. is_over v h.0) (map host_id (range_with_len l.host (l.topology.hosts - l.host))) ≡ all_over l.topology v
