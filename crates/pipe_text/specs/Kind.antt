-- The word that is printed for the fault of a line.
use Rattle.std.specs.Prelude.{ℕ, List, codes}
use Rattle.pipe_text.specs.declared.kind.LineKind.{LineKind}
use Rattle.pipe_text.specs.declared.kind.LineKind.TheVariants.{Verb, Count, Node, Link, Number, Service, Receivers, Body, Twice, Order}

-- the word of a fault of a line
abbrev pub kind_word : LineKind → List ℕ
kind_word Verb = codes "verb"
kind_word Count = codes "count"
kind_word Node = codes "node"
kind_word Link = codes "link"
kind_word Number = codes "number"
kind_word Service = codes "service"
kind_word Receivers = codes "receivers"
kind_word Body = codes "body"
kind_word Twice = codes "twice"
kind_word Order = codes "order"
