-- Steps of the collection of logs.
use Rattle.std.proofs.Common.{◌≡◌, ℕ, ◌+◌, ◌<◌, List, [], ◌∷◌, ◌++◌, length, take, reverse, get_or, arith, refl, sym, subst, ap, ◌∙◌, length-append}
use Rattle.std.specs.List.{All}
use Rattle.std.proofs.lemmas.List.Elements.{All-push}
use Rattle.std.proofs.lemmas.List.{take_more, take_at, reverse-append}
use Rattle.pipe_graph.specs.Graph.{Graph}
use Rattle.pipe_model.specs.declared.record.Record.{Record}
use Rattle.pipe_model.specs.declared.logs.Log.{Log}
use Rattle.pipe_model.specs.Collected.{AreLogs, AreLogsOf, entries}

pub none_collected : (graph : Graph) → AreLogs graph 0 [] []
none_collected graph = record { size = refl; each = λ host d lt. absurd (omega arith) }

-- before the first record all logs are empty, of one more host too
pub one_more_host : (graph : Graph) (n : ℕ) (all : List Log) (log : Log) → AreLogs graph n [] all → entries log.best.items ≡ [] → entries log.reliable.items ≡ []
    → AreLogs graph (n + 1) [] (all ++ log ∷ [])
one_more_host graph n all log before best reliable =
    let each : All (AreLogsOf graph [] 0) all = λ k d lt.
    let here : AreLogsOf graph [] k (get_or all k d) = before.each k d (subst (λ (m : ℕ). k < m) before.size lt) in
    record { best = here.best; reliable = here.reliable } in
    let size : length (all ++ log ∷ []) ≡ n + 1 = length-append all (log ∷ []) ∙ ap (λ (m : ℕ). m + 1) before.size in
    let more : All (AreLogsOf graph [] 0) (all ++ log ∷ []) = All-push (AreLogsOf graph [] 0) all log each (record { best = best; reliable = reliable }) in
    record {
      size = size;
      each = λ host d lt.
          let here : AreLogsOf graph [] 0 (get_or (all ++ log ∷ []) host d) = more host d (subst (λ (m : ℕ). host < m) (sym size) lt) in
          record { best = here.best; reliable = here.reliable };
    }

-- one record more stands first in the history
pub history_more : (trace : List Record) (i : ℕ) (r : Record) → i < length trace → r ≡ get_or trace i r → reverse (take (i + 1) trace) ≡ r ∷ reverse (take i trace)
history_more trace i r lt is =
    let more : take (i + 1) trace ≡ take i trace ++ r ∷ [] = take_more trace i r lt ∙ ap (λ (x : Record). take i trace ++ x ∷ []) (sym is) in
    ap reverse more ∙ reverse-append (take i trace) (r ∷ [])

-- what a slice of the whole list was changed to is the list after it
pub record_more : (graph : Graph) (hosts i size : ℕ) (trace : List Record) (r : Record) (all rest : List Log) → i < length trace → r ≡ get_or trace i r → length all ≡ size
    → AreLogs graph hosts (r ∷ reverse (take i trace)) all → AreLogs graph hosts (reverse (take (i + 1) trace)) (take size (all ++ rest))
record_more graph hosts i size trace r all rest lt is len logs =
    subst (λ (past : List Record). AreLogs graph hosts past (take size (all ++ rest))) (sym (history_more trace i r lt is))
    (subst (λ (a : List Log). AreLogs graph hosts (r ∷ reverse (take i trace)) a) (sym (take_at all rest size len)) logs)
