use Rattle.std.proofs.Common.{◌≡◌, ◌++◌, drop, map}
use Rattle.pipe_text_trace.specs.Line.{lines_text}
use Rattle.pipe_text_trace.specs.Record.{down_line}
use Rattle.pipe_text_trace.proofs.record.print_down_lines.Given as goal

abbrev pub invariant-downed : goal.invariant-downed
invariant-downed l =
    l.out.items ++ lines_text (map down_line (drop l.link-index l.downed)) ≡ l.initial.out.items ++ lines_text (map down_line l.downed)
