use Rattle.std.proofs.Common.{◌≡◌, ◌++◌, drop, map}
use Rattle.pipe_text_trace.specs.Line.{lines_text}
use Rattle.pipe_text_trace.specs.Record.{dropped_line}
use Rattle.pipe_text_trace.proofs.record.print_dropped_lines.Given as goal

abbrev pub invariant-dropped : goal.invariant-dropped
invariant-dropped l =
    l.out.items ++ lines_text (map dropped_line (drop l.link-index l.dropped)) ≡ l.initial.out.items ++ lines_text (map dropped_line l.dropped)
