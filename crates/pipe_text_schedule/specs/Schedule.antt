-- A schedule: the events of its lines in order, or the first bad line with its first fault.
use Rattle.std.specs.Prelude.{ℕ, ◌+◌, if◌then◌else◌, List, [], ◌∷◌, Result, Ok, Err}
use Rattle.pipe_graph.specs.Graph.{Graph}
use Rattle.pipe_model.specs.declared.event.Event.{Event}
use Rattle.pipe_text.specs.declared.kind.LineKind.{LineKind}
use Rattle.pipe_text.specs.Words.{words_of, is_skipped}
use Rattle.pipe_text_schedule.specs.Line.{line_event}

-- the event of a line before those of the later lines, or the fault of the line under its number
abbrev pub event_onto : ℕ → Result Event LineKind → Result (List Event) (ℕ × LineKind) → Result (List Event) (ℕ × LineKind)
event_onto at (Err fault) rest = Err (at, fault)
event_onto at (Ok event) (Err fault) = Err fault
event_onto at (Ok event) (Ok events) = Ok (event ∷ events)

-- the events of these lines, the first of which has this number
abbrev pub schedule_of : Graph → List (List ℕ) → ℕ → List (List ℕ) → Result (List Event) (ℕ × LineKind)
schedule_of graph names at [] = Ok []
schedule_of graph names at (line ∷ lines) =
    if is_skipped (words_of line) then schedule_of graph names (at + 1) lines
    else event_onto at (line_event graph names (words_of line)) (schedule_of graph names (at + 1) lines)
