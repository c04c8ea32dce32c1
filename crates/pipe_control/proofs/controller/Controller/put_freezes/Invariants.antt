use Rattle.std.proofs.Common.{◌≡◌, ◌-◌, ◌++◌, length, map, filter}
use Rattle.std.specs.List.{range_with_len}
use Rattle.pipe_graph.specs.Graph.{link_id}
use Rattle.pipe_control.specs.Known.{view_of}
use Rattle.pipe_model.specs.Decision.{freeze, freezes, is_frozen}
use Rattle.pipe_control.proofs.controller.Controller.put_freezes.Given as goal

abbrev pub invariant-loop-link : goal.invariant-loop-link
invariant-loop-link l =
    let v = view_of l.self in
    l.put ++ map (freeze l.topology) (filter (is_frozen l.topology v) (map link_id (range_with_len l.link (length l.topology.links - l.link))))
    ≡ l.initial.put ++ freezes l.topology v
