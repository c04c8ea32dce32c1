use Rattle.std.proofs.Common.{◌≡◌, ◌++◌, drop, map}
use Rattle.pipe_text_trace.specs.Line.{next_words}
use Rattle.pipe_text_trace.specs.Event.{dest_word}
use Rattle.pipe_text_trace.proofs.event.print_dests.Given as goal

abbrev pub invariant-dests : goal.invariant-dests
invariant-dests l =
    l.out.items ++ next_words (map (dest_word l.names) (drop l.receiver-index l.dests)) ≡ l.initial.out.items ++ next_words (map (dest_word l.names) l.dests)
