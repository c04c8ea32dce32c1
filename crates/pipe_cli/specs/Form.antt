-- The forms of the program's words.
use Rattle.std.specs.Prelude.{◌≡◌, ℕ, List, [], ◌∷◌, codes}
use Rattle.pipe_cli.specs.declared.words.Form.{Form}
use Rattle.pipe_cli.specs.declared.words.Form.TheVariants.{Replay, ReplayTrace}

-- the words of each form: `replay`, and `replay --trace`
abbrev pub form_words : Form → List (List ℕ)
form_words Replay = codes "replay" ∷ []
form_words ReplayTrace = codes "replay" ∷ codes "--trace" ∷ []

-- the words are this form
abbrev pub IsReplayForm : Form → List (List ℕ) → Type 0
IsReplayForm form words = words ≡ form_words form

-- the words are one of the forms
abbrev pub IsSomeForm : List (List ℕ) → Type 0
IsSomeForm words = (form : Form) × IsReplayForm form words
