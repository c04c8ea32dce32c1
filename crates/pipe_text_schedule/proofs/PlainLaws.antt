-- Lemmas on lines in the plain form.
use Rattle.std.proofs.Common.{lit<, ◌≡◌, ◌==◌, ℕ, ◌-◌, ◌<◌, ◌≤◌, false, List, [], ◌∷◌, ◌++◌, length, take, drop, get_or, All, Option, Some, None, IfSome, ap, arith, sym, ◌∙◌, codes, Bor}
use Rattle.std.proofs.lemmas.Bool.Decides.{nat_tests}
use Rattle.std.proofs.lemmas.List.{take_all}
use Rattle.std.proofs.lemmas.List.Elements.{All-nil, All-cons}
use Rattle.pipe_graph.specs.Graph.{Graph}
use Rattle.pipe_base.specs.Limits.{last_stamp}
use Rattle.pipe_model.specs.declared.event.Event.{Event}
use Rattle.pipe_model.specs.declared.event.Event.TheVariants.{Take, Tick}
use Rattle.pipe_text.specs.Number.{number_of}
use Rattle.pipe_text.specs.Words.{is_comment}
use Rattle.pipe_text.proofs.FrontLaws.{number_plain}
use Rattle.pipe_text.proofs.PlainLaws.{three_words_read}
use Rattle.pipe_text_schedule.specs.Named.{below, node_in}
use Rattle.pipe_text_schedule.specs.Plain.{IsFirstRead, IsPlain, IsPlainWord}
use Rattle.pipe_text_schedule.specs.Take.{place_of, take_from}
use Rattle.pipe_text_schedule.specs.Tick.{reading_of, tick_from}

-- the first line, where this verb and a space stand before two words
first_plain : (graph : Graph) (names : List (List ℕ)) (verb text after rest : List ℕ) (event : Event)
    → IsPlainWord verb → is_comment verb ≡ false → text ≡ verb ++ 32 ∷ after
    → IsPlain graph names verb after rest event → IsFirstRead graph names text rest (Some event)
first_plain graph names verb text after rest event plain other split is = record {
  words = verb ∷ is.first ∷ is.second ∷ [];
  line = three_words_read text verb is.first is.second rest (split ∙ ap (λ (more : List ℕ). verb ++ 32 ∷ more) is.split) plain is.first_plain is.second_plain;
  skipped = tt;
  event = (other, is.told);
}

-- the same, where there is an event
pub first_if_plain : (graph : Graph) (names : List (List ℕ)) (verb text after : List ℕ) (found : Option (Event × Bor (List ℕ)))
    → IsPlainWord verb → is_comment verb ≡ false → text ≡ verb ++ 32 ∷ after
    → IfSome found (λ p. IsPlain graph names verb after p.1.now p.0) → IfSome found (λ p. IsFirstRead graph names text p.1.now (Some p.0))
first_if_plain graph names verb text after None plain other split is = tt
first_if_plain graph names verb text after (Some p) plain other split is = first_plain graph names verb text after p.1.now p.0 plain other split is

four_plain : (a b c d : ℕ) → 32 < a → 32 < b → 32 < c → 32 < d → IsPlainWord (a ∷ b ∷ c ∷ d ∷ [])
four_plain a b c d above_a above_b above_c above_d =
    let P = λ (byte : ℕ). 32 < byte in
    let all : All (λ byte. 32 < byte) (a ∷ b ∷ c ∷ d ∷ [])
    = All-cons P a (b ∷ c ∷ d ∷ []) above_a (All-cons P b (c ∷ d ∷ []) above_b (All-cons P c (d ∷ []) above_c (All-cons P d [] above_d (All-nil P)))) in
    (all, omega arith)

-- a text by its first five bytes
pub five_first : (text : List ℕ) (a b c d e : ℕ) → 5 ≤ length text
    → get_or text 0 0 ≡ a → get_or text 1 0 ≡ b → get_or text 2 0 ≡ c → get_or text 3 0 ≡ d → get_or text 4 0 ≡ e
    → text ≡ a ∷ b ∷ c ∷ d ∷ e ∷ take (length text - 5) (drop 5 text)
five_first [] a b c d e long is_a is_b is_c is_d is_e = absurd (omega arith)
five_first (x ∷ []) a b c d e long is_a is_b is_c is_d is_e = absurd (omega arith)
five_first (x ∷ y ∷ []) a b c d e long is_a is_b is_c is_d is_e = absurd (omega arith)
five_first (x ∷ y ∷ z ∷ []) a b c d e long is_a is_b is_c is_d is_e = absurd (omega arith)
five_first (x ∷ y ∷ z ∷ u ∷ []) a b c d e long is_a is_b is_c is_d is_e = absurd (omega arith)
five_first (x ∷ y ∷ z ∷ u ∷ v ∷ rest) a b c d e long is_a is_b is_c is_d is_e =
    let whole : take (length (x ∷ y ∷ z ∷ u ∷ v ∷ rest) - 5) rest ≡ rest = take_all _ rest (omega arith) in cc

pub some_bytes : (n : ℕ) → (n == 0) ≡ false → 0 < n
some_bytes n is = grind (arith, nat_tests)

-- the verbs
pub take_word : IsPlainWord (codes "take")
take_word = four_plain 116 97 107 101 (lit< tt) (lit< tt) (lit< tt) (lit< tt)

pub tick_word : IsPlainWord (codes "tick")
tick_word = four_plain 116 105 99 107 (lit< tt) (lit< tt) (lit< tt) (lit< tt)

pub take_plain : (graph : Graph) (names : List (List ℕ)) (text after rest first second : List ℕ) (number link place : ℕ)
    → text ≡ first ++ 32 ∷ after → number_of 65535 first ≡ Some number
    → after ≡ second ++ 10 ∷ rest → number_of 4294967295 second ≡ Some place
    → Some link ≡ below (length graph.links) (Some number) → IsPlain graph names (codes "take") text rest (Take (record { 0 = link }) place false)
take_plain graph names text after rest first second number link place split number_is split_on place_is link_is = record {
  first = first;
  second = second;
  split = split ∙ ap (λ (more : List ℕ). first ++ 32 ∷ more) split_on;
  first_plain = number_plain 65535 number first number_is;
  second_plain = number_plain 4294967295 place second place_is;
  told = ap (λ (n : Option ℕ). take_from (below (length graph.links) n) (place_of second) (Some false)) number_is
      ∙ ap (λ (l : Option ℕ). take_from l (place_of second) (Some false)) (sym link_is)
      ∙ ap (λ (p : Option ℕ). take_from (Some link) p (Some false)) place_is;
}

pub tick_plain : (graph : Graph) (names : List (List ℕ)) (text after rest first second : List ℕ) (node now : ℕ)
    → text ≡ first ++ 32 ∷ after → IsPlainWord first → Some node ≡ node_in graph names first
    → after ≡ second ++ 10 ∷ rest → number_of graph.top second ≡ Some now
    → IsPlain graph names (codes "tick") text rest (Tick (record { 0 = node }) (record { 0 = now }))
tick_plain graph names text after rest first second node now split first_is node_is split_on now_is = record {
  first = first;
  second = second;
  split = split ∙ ap (λ (more : List ℕ). first ++ 32 ∷ more) split_on;
  first_plain = first_is;
  second_plain = number_plain graph.top now second now_is;
  told = ap (λ (n : Option ℕ). tick_from n (reading_of graph second)) (sym node_is) ∙ ap (tick_from (Some node)) now_is;
}
