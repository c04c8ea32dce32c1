-- Lemmas on what is read and written by several calls.
use Rattle.std.proofs.Common.{◌≡◌, ℕ, ◌+◌, ◌-◌, arith, rules, List, [], ◌++◌, take, drop, length, Option, None, Some, refl, ap, sym, ◌∙◌, append_assoc, append-nil}
use Rattle.std.proofs.lemmas.List.{places, same_lists, take_rest}
use Rattle.std.specs.Io.KnownBytes.{Consumes, Appends, Keeps}

pub consumes_none : (left : Option (List ℕ)) → Consumes left left []
consumes_none None = tt
consumes_none (Some xs) = refl

pub appends_none : (old : Option (List ℕ)) → Appends old old []
appends_none None = tt
appends_none (Some xs) = sym (append-nil xs)

pub consumes_more : (left now rest : Option (List ℕ)) (bytes more all : List ℕ) → Consumes left now bytes → Consumes now rest more
    → all ≡ bytes ++ more → Consumes left rest all
consumes_more None now rest bytes more all first second is = tt
consumes_more (Some xs) None rest bytes more all first second is = absurd first
consumes_more (Some xs) (Some ys) None bytes more all first second is = absurd second
consumes_more (Some xs) (Some ys) (Some zs) bytes more all first second is =
    first ∙ ap (λ ws. bytes ++ ws) second ∙ sym (append_assoc bytes more zs) ∙ ap (λ ws. ws ++ zs) (sym is)

pub appends_more : (old now new : Option (List ℕ)) (bytes more all : List ℕ) → Appends old now bytes → Appends now new more
    → all ≡ bytes ++ more → Appends old new all
appends_more None now new bytes more all first second is = tt
appends_more (Some xs) None new bytes more all first second is = absurd first
appends_more (Some xs) (Some ys) None bytes more all first second is = absurd second
appends_more (Some xs) (Some ys) (Some zs) bytes more all first second is =
    second ∙ ap (λ ws. ws ++ more) first ∙ append_assoc xs bytes more ∙ ap (λ ws. xs ++ ws) (sym is)

-- a call that failed keeps what was known
pub appends_kept : (old now new : Option (List ℕ)) (bytes : List ℕ) → Appends old now bytes → Keeps now new → Appends old new bytes
appends_kept None now new bytes first kept = tt
appends_kept (Some xs) None new bytes first kept = absurd first
appends_kept (Some xs) (Some ys) None bytes first kept = absurd kept
appends_kept (Some xs) (Some ys) (Some zs) bytes first kept = kept ∙ first

-- a part at the front, and then more of the rest
pub take-more : (at n : ℕ) (xs : List ℕ) → take (at + n) xs ≡ take at xs ++ take n (take (length xs - at) (drop at xs))
take-more at n xs =
    let rest : take (length xs - at) (drop at xs) ≡ drop at xs = take_rest xs at in
    let joined : take (at + n) xs ≡ take at xs ++ take n (drop at xs)
    = same_lists _ _ (search (rules, places)) (λ k d h. grind (arith, places)) in
    joined ∙ ap (λ ys. take at xs ++ take n ys) (sym rest)
