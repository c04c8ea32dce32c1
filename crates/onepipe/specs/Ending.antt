-- The number that the process ends with.
use Rattle.std.specs.Prelude.{◌≡◌, ◌↔◌, ℕ, List, [], true, false, Option}
use Rattle.std.specs.declared.io.ErrorKind.{ErrorKind}
use Rattle.std.specs.declared.io.ErrorKind.TheVariants.{OutOfMemory}
use Rattle.pipe_outside.specs.Outside.{Rose}
use Rattle.pipe_cli.specs.Answer.{DoesReplay, IsCaused, IsComplete, IsOfInput}
use Rattle.pipe_cli.specs.Form.{IsSomeForm}
use Rattle.pipe_cli.specs.Status.{exit_number, has_text}
use Rattle.pipe_cli.specs.Write.{EndsAtFault}
use Rattle.pipe_cli.specs.declared.status.Status.{Status}
use Rattle.pipe_cli.specs.declared.status.Status.TheVariants.{NoMemory, Usage, WriteFault}
use Rattle.pipe_cli.specs.declared.top.Outcome.{Outcome}

-- The status where the words could not be had: a word that is no text is no form of the program.
abbrev pub status_without_words : ErrorKind → Status
status_without_words OutOfMemory = NoMemory
status_without_words _ = Usage

-- The number is that of the outcome of a run over these words, which took the source from `before` to `after` and the sink from
-- `old` to `new`. The clauses are those of `run`.
pub record EndsAsRun {S K : Type 0} (left : S → Option (List ℕ)) (read_faults : S → ℕ) (written : K → Option (List ℕ)) (write_faults : K → ℕ) (words : List (List ℕ)) (before after : S) (old new : K) (number : ℕ) : Type 0 where
  pub outcome : Outcome
  pub number_is : number ≡ exit_number outcome.status
  pub usage : (outcome.status ≡ Usage) ↔ ¬ IsSomeForm words
  pub unread : outcome.status ≡ Usage → after ≡ before
  pub input : IsOfInput (left before) (left after) outcome.status
  pub cause : IsCaused outcome.status (read_faults before) (read_faults after) (write_faults old) (write_faults new)
  pub replay : has_text outcome.status ≡ true → DoesReplay words outcome.status (left before) (left after) (written old) (written new) outcome.trace
  pub last : outcome.status ≡ WriteFault → EndsAtFault written write_faults old new
  pub silent : has_text outcome.status ≡ false → (new ≡ old) × (outcome.trace ≡ [])
  pub complete : ¬ Rose (read_faults before) (read_faults after) → ¬ Rose (write_faults old) (write_faults new) → IsComplete words (left before) outcome.status
