use Rattle.std.proofs.Common.{◌≡◌, ◌-◌, ◌++◌, map, filter}
use Rattle.std.specs.List.{range_with_len}
use Rattle.pipe_control.specs.Known.{view_of}
use Rattle.pipe_model.specs.Decision.{drop_links, drops, lags, node_id}
use Rattle.pipe_control.proofs.controller.Controller.put_drops.Given as goal

abbrev pub invariant-loop-node : goal.invariant-loop-node
invariant-loop-node l =
    let v = view_of l.self in
    l.put ++ map (drop_links v) (filter (λ n. lags l.topology v n.0) (map node_id (range_with_len l.node (l.topology.nodes - l.node))))
    ≡ l.initial.put ++ drops l.topology v
