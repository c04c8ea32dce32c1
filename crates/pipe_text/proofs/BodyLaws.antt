-- Lemmas on bodies as words.
use Rattle.std.proofs.Common.{◌≡◌, ℕ, ◌<◌, List, [], ◌∷◌, ◌++◌, length, Option, None, Some, refl, ap, sym, subst, ◌∙◌, arith, append_assoc, nat_le, false, if◌then◌else◌}
use Rattle.std.proofs.lemmas.Bool.Decides.{nat_tests}
use Rattle.std.specs.Option.{option_map}
use Rattle.pipe_base.specs.Limits.{most_body}
use Rattle.pipe_text.specs.Body.{bytes_of, byte_onto, within_body, body_of}

-- a byte moves from the front of the rest to the end of what is read
onto_end : (bytes : List ℕ) (byte : ℕ) (after : Option (List ℕ))
    → option_map (λ more. bytes ++ more) (byte_onto (Some byte) after) ≡ option_map (λ more. (bytes ++ byte ∷ []) ++ more) after
onto_end bytes byte None = refl
onto_end bytes byte (Some more) = ap Some (sym (append_assoc bytes (byte ∷ []) more))

-- the same of the digits
pub read_more : (bytes now : List ℕ) (byte high : ℕ) (tail after word rest : List ℕ)
    → option_map (λ more. bytes ++ more) (bytes_of rest) ≡ bytes_of word → rest ≡ high ∷ tail
    → bytes_of (high ∷ tail) ≡ byte_onto (Some byte) (bytes_of after) → now ≡ bytes ++ byte ∷ []
    → option_map (λ more. now ++ more) (bytes_of after) ≡ bytes_of word
read_more bytes now byte high tail after word rest so_far is first push =
    subst (λ (xs : List ℕ). option_map (λ more. xs ++ more) (bytes_of after) ≡ bytes_of word) (sym push)
    (sym (onto_end bytes byte (bytes_of after))
    ∙ ap (option_map (λ more. bytes ++ more)) (sym first)
    ∙ ap (λ (xs : List ℕ). option_map (λ more. bytes ++ more) (bytes_of xs)) (sym is)
    ∙ so_far)

-- a body is not longer than it may be
pub too_long : (word bytes : List ℕ) → Some bytes ≡ bytes_of word → most_body < length bytes → None ≡ body_of word
too_long word bytes is long =
    let no : nat_le (length bytes) most_body ≡ false = grind (arith, nat_tests) in
    let cut : within_body (Some bytes) ≡ None = ap (λ t. if t then Some bytes else None) no in
    sym cut ∙ ap within_body is
