use Rattle.std.proofs.Common.{◌≡◌, ◌++◌, drop, map}
use Rattle.pipe_text_trace.specs.Line.{lines_text}
use Rattle.pipe_text_trace.specs.Record.{control_line}
use Rattle.pipe_text_trace.proofs.record.print_control_lines.Given as goal

abbrev pub invariant-control : goal.invariant-control
invariant-control l =
    l.out.items ++ lines_text (map (control_line l.names) (drop l.told-index l.control)) ≡ l.initial.out.items ++ lines_text (map (control_line l.names) l.control)
