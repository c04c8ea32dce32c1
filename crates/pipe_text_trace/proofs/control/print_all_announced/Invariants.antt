use Rattle.std.proofs.Common.{◌≡◌, ◌++◌, drop, map}
use Rattle.pipe_text_trace.specs.Line.{next_words}
use Rattle.pipe_text_trace.specs.Control.{announced_word}
use Rattle.pipe_text_trace.proofs.control.print_all_announced.Given as goal

abbrev pub invariant-list : goal.invariant-list
invariant-list l =
    l.out.items ++ next_words (map (announced_word l.names) (drop l.entry-index l.list)) ≡ l.initial.out.items ++ next_words (map (announced_word l.names) l.list)
