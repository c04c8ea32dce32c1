-- The event of a line, or the first fault of the line.
use Rattle.std.specs.Prelude.{ℕ, if◌then◌else◌, List, [], ◌∷◌, Result, Err, bytes_eq, codes}
use Rattle.pipe_graph.specs.Graph.{Graph}
use Rattle.pipe_model.specs.declared.event.Event.{Event}
use Rattle.pipe_text.specs.declared.kind.LineKind.{LineKind}
use Rattle.pipe_text.specs.declared.kind.LineKind.TheVariants.{Verb}
use Rattle.pipe_text_schedule.specs.Control.{control_line, decide_line}
use Rattle.pipe_text_schedule.specs.Failure.{crash_line, cut_line}
use Rattle.pipe_text_schedule.specs.Send.{send_line}
use Rattle.pipe_text_schedule.specs.Take.{take_line, lose_line}
use Rattle.pipe_text_schedule.specs.Tick.{tick_line}

-- nodes that crash and links that are cut, by the verb
abbrev pub failure_event : Graph → List (List ℕ) → List ℕ → List (List ℕ) → Result Event LineKind
failure_event graph names verb words =
    if bytes_eq verb (codes "crash") then crash_line graph names words else if bytes_eq verb (codes "cut") then cut_line graph words else Err Verb

-- the event that the words of a line tell, by its verb
abbrev pub line_event : Graph → List (List ℕ) → List (List ℕ) → Result Event LineKind
line_event graph names [] = Err Verb
line_event graph names (verb ∷ words) =
    if bytes_eq verb (codes "send") then send_line graph names words
    else if bytes_eq verb (codes "tick") then tick_line graph names words
    else if bytes_eq verb (codes "take") then take_line graph words
    else if bytes_eq verb (codes "lose") then lose_line graph words
    else if bytes_eq verb (codes "control") then control_line words
    else if bytes_eq verb (codes "decide") then decide_line words
    else failure_event graph names verb words
