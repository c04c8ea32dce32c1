use Rattle.std.proofs.Common.{◌≡◌, length, []}
use Rattle.pipe_graph.specs.Graph.{Graph}
use Rattle.pipe_model.specs.Collected.{AreLogs}
use Rattle.pipe_model.proofs.logs.empty_logs.Given as goal

abbrev pub invariant-hosts : goal.invariant-hosts
invariant-hosts l = (length l.all.items ≡ l.counter) × ((graph : Graph) → AreLogs graph l.counter [] l.all.items)
