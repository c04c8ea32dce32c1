-- Lemmas on the words of the command line.
use Rattle.std.proofs.Common.{◌≡◌, ℕ, ◌&&◌, Bool, true, false, List, [], ◌∷◌, length, map, get_or, Option, None, Some, String, Global, string_bytes, bytes_eq, codes, if◌then◌else◌, refl, ap, sym, subst, ◌∙◌, arith}
use Rattle.std.specs.Option.{IfSome}
use Rattle.std.proofs.lemmas.Slice.Eq.{bytes_eq-Decides}
use Rattle.pipe_cli.specs.declared.words.Form.{Form}
use Rattle.pipe_cli.specs.declared.words.Form.TheVariants.{Replay, ReplayTrace}
use Rattle.pipe_cli.specs.Form.{IsReplayForm}

-- the form that is answered, if any, is that of the words
abbrev IsAnswered : List (List ℕ) → Option Form → Type 0
IsAnswered words answer = IfSome answer (λ form. IsReplayForm form words)

abbrev answer_alone : List ℕ → Option Form
answer_alone verb = if bytes_eq verb (codes "replay") then Some Replay else None

abbrev answer_of_two : List ℕ → List ℕ → Option Form
answer_of_two verb option = if bytes_eq verb (codes "replay") && bytes_eq option (codes "--trace") then Some ReplayTrace else None

-- one word, by its test
alone : (verb : List ℕ) (t : Bool) → bytes_eq verb (codes "replay") ≡ t → IsAnswered (verb ∷ []) (if t then Some Replay else None)
alone verb true test = ap (λ (w : List ℕ). w ∷ []) ((bytes_eq-Decides verb (codes "replay")).0 test)
alone verb false test = tt

-- two words, by their tests
of_two : (verb option : List ℕ) (s t : Bool) → bytes_eq verb (codes "replay") ≡ s → bytes_eq option (codes "--trace") ≡ t
    → IsAnswered (verb ∷ option ∷ []) (if s && t then Some ReplayTrace else None)
of_two verb option true true first second =
    let verb_is : verb ≡ codes "replay" = (bytes_eq-Decides verb (codes "replay")).0 first in
    let option_is : option ≡ codes "--trace" = (bytes_eq-Decides option (codes "--trace")).0 second in
    cc
of_two verb option true false first second = tt
of_two verb option false t first second = tt

pub form_alone : (texts : List (String Global)) (item : String Global) (verb : List ℕ) (answer : Option Form) → length texts ≡ 1
    → item ≡ get_or texts 0 item → verb ≡ string_bytes item → answer ≡ answer_alone verb → IsAnswered (map string_bytes texts) answer
form_alone [] item verb answer one item_is verb_is answer_is = absurd (omega arith)
form_alone (x ∷ []) item verb answer one item_is verb_is answer_is =
    let same : verb ≡ string_bytes x = verb_is ∙ ap string_bytes item_is in
    subst (IsAnswered (string_bytes x ∷ [])) (sym (answer_is ∙ ap answer_alone same))
    (alone (string_bytes x) (bytes_eq (string_bytes x) (codes "replay")) refl)
form_alone (x ∷ y ∷ texts) item verb answer one item_is verb_is answer_is = absurd (omega arith)

pub form_of_two : (texts : List (String Global)) (first second : String Global) (verb option : List ℕ) (answer : Option Form) → length texts ≡ 2
    → first ≡ get_or texts 0 first → second ≡ get_or texts 1 second → verb ≡ string_bytes first → option ≡ string_bytes second
    → answer ≡ answer_of_two verb option → IsAnswered (map string_bytes texts) answer
form_of_two [] first second verb option answer two first_is second_is verb_is option_is answer_is = absurd (omega arith)
form_of_two (x ∷ []) first second verb option answer two first_is second_is verb_is option_is answer_is = absurd (omega arith)
form_of_two (x ∷ y ∷ []) first second verb option answer two first_is second_is verb_is option_is answer_is =
    let same_verb : verb ≡ string_bytes x = verb_is ∙ ap string_bytes first_is in
    let same_option : option ≡ string_bytes y = option_is ∙ ap string_bytes second_is in
    subst (IsAnswered (string_bytes x ∷ string_bytes y ∷ []))
    (sym (answer_is ∙ ap (λ (w : List ℕ). answer_of_two w option) same_verb ∙ ap (answer_of_two (string_bytes x)) same_option))
    (of_two (string_bytes x) (string_bytes y) (bytes_eq (string_bytes x) (codes "replay")) (bytes_eq (string_bytes y) (codes "--trace")) refl refl)
form_of_two (x ∷ y ∷ z ∷ texts) first second verb option answer two first_is second_is verb_is option_is answer_is = absurd (omega arith)
