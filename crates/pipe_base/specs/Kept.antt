-- A step in its short forms.
use Rattle.std.specs.Prelude.{Some, [], ◌∷◌}
use Rattle.pipe_base.specs.declared.kept.Form.{Form}
use Rattle.pipe_base.specs.declared.kept.Form.TheVariants.{Quiet, PutsOne, Puts, Fated, Logs, Whole}
use Rattle.pipe_base.specs.declared.step.Outcome.TheVariants.{Ok}
use Rattle.pipe_base.specs.declared.step.Step.{Step}
use Rattle.pipe_base.specs.Step.{quiet_step}

-- the step that a form stands for: what the form leaves out is as in a step that did nothing
abbrev pub step_of : Form → Step
step_of (Quiet outcome) = quiet_step outcome
step_of (PutsOne stamped put) = record (quiet_step Ok) { put = put ∷ []; stamped = stamped }
step_of (Puts stamped put) = record (quiet_step Ok) { put = put; stamped = stamped }
step_of (Fated fate) = record (quiet_step Ok) { fate = Some fate }
step_of (Logs logged) = record (quiet_step Ok) { logged = logged }
step_of (Whole step) = step.value
