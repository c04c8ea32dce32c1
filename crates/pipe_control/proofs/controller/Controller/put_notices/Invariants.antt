use Rattle.std.proofs.Common.{◌≡◌, ◌-◌, ◌++◌, map, filter}
use Rattle.std.specs.List.{range_with_len}
use Rattle.pipe_control.specs.Known.{view_of}
use Rattle.pipe_model.specs.Decision.{host_id, is_behind, notice, notices}
use Rattle.pipe_control.proofs.controller.Controller.put_notices.Given as goal

abbrev pub invariant-loop-host : goal.invariant-loop-host
invariant-loop-host l =
    let v = view_of l.self in
    l.put ++ map (notice v) (filter (λ h. is_behind v h.0) (map host_id (range_with_len l.host (l.topology.hosts - l.host))))
    ≡ l.initial.put ++ notices l.topology v
