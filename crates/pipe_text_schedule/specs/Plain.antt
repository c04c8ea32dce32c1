-- The first line of a text as an event.
use Rattle.std.specs.Prelude.{◌≡◌, ℕ, ◌<◌, true, false, List, [], ◌∷◌, ◌++◌, length, All, Option, IfSome, IfNone, Ok, Err}
use Rattle.pipe_graph.specs.Graph.{Graph}
use Rattle.pipe_model.specs.declared.event.Event.{Event}
use Rattle.pipe_text.specs.declared.kind.LineKind.{LineKind}
use Rattle.pipe_text.specs.Words.{IsLineRead, is_skipped}
use Rattle.pipe_text_schedule.specs.Line.{line_event}

-- the first line of the text tells this event, or is skipped where there is none, and the rest is what comes after that line
pub record IsFirstRead (graph : Graph) (names : List (List ℕ)) (text rest : List ℕ) (found : Option Event) : Type 0 where
  pub words : List (List ℕ)
  pub line : IsLineRead text rest words
  pub skipped : IfNone found (is_skipped words ≡ true)
  pub event : IfSome found (λ e. (is_skipped words ≡ false) × (line_event graph names words ≡ Ok e))

-- the first line of the text is not skipped, and has this fault first
pub record IsFirstBad (graph : Graph) (names : List (List ℕ)) (text : List ℕ) (kind : LineKind) : Type 0 where
  pub rest : List ℕ
  pub words : List (List ℕ)
  pub line : IsLineRead text rest words
  pub read : is_skipped words ≡ false
  pub bad : line_event graph names words ≡ Err kind

-- a word that nothing in it separates
abbrev pub IsPlainWord : List ℕ → Type 0
IsPlainWord word = All (λ byte. 32 < byte) word × (0 < length word)

-- the text begins with two words, a space after the first and a line feed after the second, and after this verb these tell the event
pub record IsPlain (graph : Graph) (names : List (List ℕ)) (verb text rest : List ℕ) (event : Event) : Type 0 where
  pub first : List ℕ
  pub second : List ℕ
  pub split : text ≡ first ++ 32 ∷ (second ++ 10 ∷ rest)
  pub first_plain : IsPlainWord first
  pub second_plain : IsPlainWord second
  pub told : line_event graph names (verb ∷ first ∷ second ∷ []) ≡ Ok event
