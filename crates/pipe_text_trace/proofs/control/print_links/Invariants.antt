use Rattle.std.proofs.Common.{◌≡◌, ◌++◌, drop, map}
use Rattle.pipe_text_trace.specs.Line.{next_words}
use Rattle.pipe_text_trace.specs.Control.{link_word}
use Rattle.pipe_text_trace.proofs.control.print_links.Given as goal

abbrev pub invariant-links : goal.invariant-links
invariant-links l =
    l.out.items ++ next_words (map link_word (drop l.link-index l.links)) ≡ l.initial.out.items ++ next_words (map link_word l.links)
