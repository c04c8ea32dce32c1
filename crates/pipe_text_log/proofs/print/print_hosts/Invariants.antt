use Rattle.std.proofs.Common.{◌≡◌, ◌++◌, List}
use Rattle.pipe_graph.specs.Graph.{Graph}
use Rattle.pipe_model.specs.declared.record.Record.{Record}
use Rattle.pipe_model.specs.Collected.{AreLogs}
use Rattle.pipe_text_log.specs.LogText.{hosts_text}
use Rattle.pipe_text_log.proofs.print.print_hosts.Given as goal

abbrev pub invariant-hosts : goal.invariant-hosts
invariant-hosts l =
    (graph : Graph) (past : List Record) → AreLogs graph l.hosts past l.all → l.out.items ≡ l.initial.out.items ++ hosts_text l.names graph past l.host
