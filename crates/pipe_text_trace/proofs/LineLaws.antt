-- Lemmas on printing lines one after the other.
use Rattle.std.proofs.Common.{◌≡◌, ℕ, List, ◌++◌, ap, sym, ◌∙◌, append_assoc}
use Rattle.std.proofs.lemmas.Grind.{flat_map-append}
use Rattle.pipe_text_trace.specs.Line.{line_text, lines_text}

-- these lines were printed
pub record Printed (old new : List ℕ) (lines : List (List (List ℕ))) : Type 0 where
  pub is : new ≡ old ++ lines_text lines

-- some lines were printed, and then some more
pub printed_more : {old mid new : List ℕ} {lines : List (List (List ℕ))} (more : List (List (List ℕ)))
    → Printed old mid lines → new ≡ mid ++ lines_text more → Printed old new (lines ++ more)
printed_more {old} {mid} {new} {lines} more printed then = record {
  is = then ∙ ap (λ (out : List ℕ). out ++ lines_text more) printed.is ∙ append_assoc old (lines_text lines) (lines_text more)
      ∙ ap (λ (text : List ℕ). old ++ text) (sym (flat_map-append line_text lines more));
}
