use Rattle.std.proofs.Common.{◌≡◌, ◌-◌, ◌++◌, length, map, filter}
use Rattle.std.specs.List.{range_with_len}
use Rattle.pipe_graph.specs.Graph.{all_links, link_id}
use Rattle.pipe_control.specs.Known.{view_of}
use Rattle.pipe_model.specs.Decision.{is_dead}
use Rattle.pipe_control.proofs.controller.Controller.dead_links.Given as goal

abbrev pub invariant-loop-link : goal.invariant-loop-link
invariant-loop-link l =
    let v = view_of l.self in
    l.dead ++ filter (λ k. is_dead l.topology v k.0) (map link_id (range_with_len l.link (length l.topology.links - l.link)))
    ≡ filter (λ k. is_dead l.topology v k.0) (all_links l.topology)
