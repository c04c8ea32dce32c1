use Rattle.std.proofs.Common.{◌≡◌, ◌++◌, drop, map}
use Rattle.pipe_text_trace.specs.Line.{lines_text}
use Rattle.pipe_text_trace.specs.Record.{put_line}
use Rattle.pipe_text_trace.proofs.record.print_put_lines.Given as goal

abbrev pub invariant-puts : goal.invariant-puts
invariant-puts l =
    l.out.items ++ lines_text (map (put_line l.names) (drop l.link-index l.puts)) ≡ l.initial.out.items ++ lines_text (map (put_line l.names) l.puts)
