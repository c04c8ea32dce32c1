use Rattle.std.proofs.Common.{◌≡◌, ◌++◌, drop}
use Rattle.pipe_text_trace.specs.Line.{lines_text}
use Rattle.pipe_text_trace.specs.TraceText.{records_lines}
use Rattle.pipe_text_trace.proofs.trace.print_records.Given as goal

-- what is printed so far, and then the lines of the rest
abbrev pub invariant-records : goal.invariant-records
invariant-records l =
    l.out.items ++ lines_text (records_lines l.names l.at (drop l.at l.records)) ≡ l.initial.out.items ++ lines_text (records_lines l.names 0 l.records)
