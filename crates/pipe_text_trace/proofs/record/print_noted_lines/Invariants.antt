use Rattle.std.proofs.Common.{◌≡◌, ◌++◌, drop, map}
use Rattle.pipe_text_trace.specs.Line.{lines_text}
use Rattle.pipe_text_trace.specs.Record.{noted_line}
use Rattle.pipe_text_trace.proofs.record.print_noted_lines.Given as goal

abbrev pub invariant-noted : goal.invariant-noted
invariant-noted l =
    l.out.items ++ lines_text (map (noted_line l.names) (drop l.entry-index l.noted)) ≡ l.initial.out.items ++ lines_text (map (noted_line l.names) l.noted)
