use Rattle.std.proofs.Common.{◌≡◌, ◌++◌, map, take}
use Rattle.std.specs.List.{flat_map, range_with_len}
use Rattle.pipe_topo.specs.Plan.{cable_links, loop_of}
use Rattle.pipe_topo.proofs.tables.links_of.Given as goal

abbrev pub invariant-loop-cable : goal.invariant-loop-cable
invariant-loop-cable l = l.links.items ≡ flat_map (cable_links l.hosts l.levels) (take l.cable-index l.cables)

abbrev pub invariant-loop-switch : goal.invariant-loop-switch
invariant-loop-switch l = l.links.items ≡ flat_map (cable_links l.hosts l.levels) l.cables ++ map (loop_of l.hosts) (range_with_len 0 l.switch)
