use Rattle.std.proofs.Common.{◌≡◌, ◌++◌, drop, map}
use Rattle.pipe_text_trace.specs.Line.{lines_text}
use Rattle.pipe_text_trace.specs.Record.{logged_line}
use Rattle.pipe_text_trace.proofs.record.print_logged_lines.Given as goal

abbrev pub invariant-logged : goal.invariant-logged
invariant-logged l =
    l.out.items ++ lines_text (map (logged_line l.names) (drop l.service-index l.logged)) ≡ l.initial.out.items ++ lines_text (map (logged_line l.names) l.logged)
