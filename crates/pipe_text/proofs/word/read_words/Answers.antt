use Rattle.std.proofs.Common.{◌≡◌, ◌==◌, ◌++◌, ap, map, not, length, Bor, List, ℕ, Option, Result, Ok, Err, rules, ◌∙◌}
use Rattle.std.specs.Iterator.{Drains}
use Rattle.std.specs.Result.{MatchResult}
use Rattle.std.proofs.lemmas.Iterator.{YieldsList, items_from_drains}
use Rattle.std.proofs.lemmas.Iterator.Consumers.{YieldsList-at, YieldsList-from_filter}
use Rattle.std.proofs.lemmas.Iterator.Splits.{YieldsList-from_slice_split}
use borrow.Author.Tests.{tests}
use Rattle.pipe_text.specs.Words.{is_blank}
use Rattle.pipe_text.proofs.word.read_words.Goals as goal

-- where all was added, the items are those of the list
all_added : {S A B E : Type 0} {steps : S → Option A → S → Type 0} {v : A → B} {s t : S} {all : List B} (xs : List A) (P : E → Type 0) (r : Result (Unit {0}) E)
    → MatchResult r (λ _. Drains steps t xs) P → t ≡ s → YieldsList steps v s all → MatchResult r (λ _. map v xs ≡ all) (λ _. Unit {0})
all_added xs P (Ok u) drained same list = items_from_drains xs (drained.1.0, drained.1.1, λ w. (drained.0, drained.1.2)) (YieldsList-at same list)
all_added xs P (Err e) drained same list = tt

pub returns : goal.returns
returns c =
    let ran = c.extend.ensures.ran in
    let words =
    all_added ran.1 _ c.extend.result ran.4 ran.2
    (YieldsList-from_filter _ (λ (word : List ℕ). not (length word == 0))
    (YieldsList-from_slice_split _ is_blank c.args.line.now (cc) (cc) (cc) (λ x b q k. search (rules, tests)))
    c.filter.ensures.closure (λ x b q k. search (rules, tests))) in
    ap (map (λ (word : Bor (List ℕ)). word.now)) (ran.3.0 ∙ ap (λ (words : List (Bor (List ℕ))). words ++ ran.1) c.clear.ensures.items)
    ∙ rw c.in_ok-extend.was at words
