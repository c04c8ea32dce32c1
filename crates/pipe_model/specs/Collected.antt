-- What is collected of a trace: the entries of each host.
use Rattle.std.specs.Prelude.{◌≡◌, ℕ, ◌<◌, ◌==◌, Bool, false, List, ◌++◌, map, length, Option, None, Some, slice_index_or}
use Rattle.std.specs.Borrow.{Bor}
use Rattle.pipe_base.specs.declared.message.Entry.{Entry}
use Rattle.pipe_base.specs.declared.message.Service.{Service}
use Rattle.pipe_base.specs.declared.message.Service.TheVariants.{BestEffort, Reliable}
use Rattle.pipe_graph.specs.Graph.{Graph}
use Rattle.pipe_model.specs.declared.record.Record.{Record}
use Rattle.pipe_model.specs.Acting.{own}
use Rattle.pipe_model.specs.Logged.{log, entries_of}
use Rattle.pipe_model.specs.declared.logs.Log.{Log}

-- the entries that are referred to
abbrev pub entries : List (Bor Entry) → List Entry
entries es = map (λ e. e.now) es

-- what was collected of one host are its logs
pub record AreLogsOf (graph : Graph) (past : List Record) (host : ℕ) (logs : Log) : Type 0 where
  pub best : entries logs.best.items ≡ log BestEffort (own graph host past)
  pub reliable : entries logs.reliable.items ≡ log Reliable (own graph host past)

-- both lists grew by their part of what was logged
pub record Grows (logged : List (Service × Entry)) (old new : Log) : Type 0 where
  pub best : entries new.best.items ≡ entries old.best.items ++ entries_of BestEffort logged
  pub reliable : entries new.reliable.items ≡ entries old.reliable.items ++ entries_of Reliable logged

-- what was collected are the logs of so many hosts
pub record AreLogs (graph : Graph) (hosts : ℕ) (past : List Record) (all : List Log) : Type 0 where
  pub size : length all ≡ hosts
  pub each : (host : ℕ) (d : Log) → host < hosts → AreLogsOf graph past host (slice_index_or all host d)
