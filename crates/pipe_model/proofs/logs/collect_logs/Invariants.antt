use Rattle.std.proofs.Common.{◌≡◌, length, reverse, take}
use Rattle.pipe_graph.specs.Graph.{Graph}
use Rattle.pipe_model.specs.Collected.{AreLogs}
use Rattle.pipe_model.proofs.logs.collect_logs.Given as goal

abbrev pub invariant-records : goal.invariant-records
invariant-records l =
    (length l.all.items ≡ l.hosts)
    × ((graph : Graph) → graph.links ≡ l.links → AreLogs graph l.hosts (reverse (take l.record-index l.record-items)) l.all.items)
