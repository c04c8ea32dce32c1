-- The text of all logs.
use Rattle.std.specs.Prelude.{ℕ, zero, suc, List, [], ◌++◌, length}
use Rattle.std.specs.List.{flat_map}
use Rattle.pipe_base.specs.declared.message.Entry.{Entry}
use Rattle.pipe_base.specs.declared.message.Service.{Service}
use Rattle.pipe_base.specs.declared.message.Service.TheVariants.{BestEffort, Reliable}
use Rattle.pipe_graph.specs.Graph.{Graph}
use Rattle.pipe_model.specs.declared.record.Record.{Record}
use Rattle.pipe_model.specs.Acting.{own}
use Rattle.pipe_model.specs.Logged.{log}
use Rattle.pipe_text.specs.Log.{log_head, log_line}
use Rattle.pipe_text.specs.Name.{name_of}

-- a message in a log, with the name of its sender
abbrev pub entry_text : List (List ℕ) → Entry → List ℕ
entry_text names e = log_line e.key.ts.0 (name_of names e.key.src.0) e.body

-- one log: how many messages it has, and then each
abbrev pub service_text : List (List ℕ) → ℕ → Service → List Entry → List ℕ
service_text names host service es = log_head (name_of names host) service (length es) ++ flat_map (entry_text names) es

-- the logs of a host: best effort first
abbrev pub host_text : List (List ℕ) → Graph → List Record → ℕ → List ℕ
host_text names graph past host =
    service_text names host BestEffort (log BestEffort (own graph host past)) ++ service_text names host Reliable (log Reliable (own graph host past))

-- the logs of the first hosts
abbrev pub hosts_text : List (List ℕ) → Graph → List Record → ℕ → List ℕ
hosts_text names graph past zero = []
hosts_text names graph past (suc n) = hosts_text names graph past n ++ host_text names graph past n

-- the logs of all hosts, in order, over a history
abbrev pub log_text : List (List ℕ) → Graph → List Record → List ℕ
log_text names graph past = hosts_text names graph past graph.hosts
