-- The text of a trace, and of one event.
use Rattle.std.specs.Prelude.{ℕ, ◌+◌, List, [], ◌∷◌, ◌++◌, length, codes, decimal}
use Rattle.pipe_model.specs.declared.event.Event.{Event}
use Rattle.pipe_model.specs.declared.record.Record.{Record}
use Rattle.pipe_text_trace.specs.Event.{event_words}
use Rattle.pipe_text_trace.specs.Line.{line_text, lines_text}
use Rattle.pipe_text_trace.specs.Record.{record_lines}

-- the lines of records, which are numbered from this number on
abbrev pub records_lines : List (List ℕ) → ℕ → List Record → List (List (List ℕ))
records_lines names at [] = []
records_lines names at (r ∷ rs) = record_lines names at r ++ records_lines names (at + 1) rs

-- the lines of a trace, the oldest record first: how many records there are, each record, and the end
abbrev pub trace_lines : List (List ℕ) → List Record → List (List (List ℕ))
trace_lines names trace =
    (codes "trace" ∷ decimal (length trace) ∷ []) ∷ [] ++ records_lines names 0 trace ++ (codes "end" ∷ []) ∷ []

-- the text of a trace of a network whose nodes have these names
abbrev pub trace_text : List (List ℕ) → List Record → List ℕ
trace_text names trace = lines_text (trace_lines names trace)

-- an event as a line of a schedule
abbrev pub event_text : List (List ℕ) → Event → List ℕ
event_text names event = line_text (event_words names event)
