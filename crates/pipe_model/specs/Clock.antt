-- The clock of a host along its own records: its next timestamp, and what it promises.
use Rattle.std.specs.Prelude.{ℕ, List, [], ◌∷◌}
use Rattle.pipe_base.specs.Clock.{next_after}
use Rattle.pipe_graph.specs.Graph.{Graph}
use Rattle.pipe_base.specs.Promise.{promise_of}
use Rattle.pipe_model.specs.declared.event.Event.{Event}
use Rattle.pipe_model.specs.declared.event.Event.TheVariants.{Tick}
use Rattle.pipe_model.specs.declared.record.Record.{Record}
use Rattle.pipe_model.specs.Sender.{sender_calls}

-- the reading of a tick
abbrev pub tick_reading : Event → ℕ
tick_reading (Tick node now) = now.0
tick_reading _ = 0

-- A host's next timestamp: at least each reading of its ticks, and above all that it stamped and all that it logged.
abbrev pub next : Graph → ℕ → List Record → ℕ
next graph node [] = 0
next graph node (r ∷ own) = next_after (next graph node own) (tick_reading r.event) r.step.stamped r.step.logged

-- What a host promises: the least timestamp of its reliable scatterings that are not settled, or its next timestamp.
abbrev pub promise : Graph → ℕ → List Record → ℕ
promise graph node own = promise_of (next graph node own) (sender_calls graph node own)
